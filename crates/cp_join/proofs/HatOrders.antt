-- The ends of a pipe mirror each other, and the parts of each do not cross in its list: the inner vertices can be flat.
use Rattle.std.proofs.Common.{◌≡◌, ℕ, ◌*◌, ◌<◌, List, [], ◌∷◌, ◌++◌, map, reverse, sym, refl, ap, ◌∙◌, subst}
use Rattle.std.proofs.lemmas.List.{reverse-reverse}
use Rattle.cp_lists.specs.Crossings.{NoCross}
use Rattle.cp_lists.specs.CyclicLists.{Distinct, Has, Lacks}
use Rattle.cp_lists.specs.Rows.{flat}
use Rattle.cp_lists.specs.Turns.{IsTurn}
use Rattle.cp_lists.proofs.Crossings.{NoCross-turn}
use Rattle.cp_lists.proofs.MappedLists.{map_on-Has}
use Rattle.cp_lists.proofs.ReversedLists.{map-reverse, reverse-Has}
use Rattle.cp_lists.proofs.TurnedLists.{turn-sym}
use Rattle.cp_faces.specs.Twins.{twin}
use Rattle.cp_maps.specs.Genus.{CanBeFlat}
use Rattle.cp_maps.specs.Mirrors.{mirror}
use Rattle.cp_join.proofs.InnerMaps.{mirror-Distinct}
use Rattle.cp_join.proofs.JoinedLists.{inner_parts-CanBeFlat}
use Rattle.cp_join.proofs.MovedCrossings.{NoCross-map, NoCross-reverse, map-NoCross}
use Rattle.cp_join.proofs.PartCopies.{TellsParts, part_copies}

-- new names of new names
pub map_twice : (f g : ℕ → ℕ) (xs : List ℕ) → map g (map f xs) ≡ map (λ x. g (f x)) xs
map_twice f g [] = refl
map_twice f g (x ∷ xs) = ap (λ zs. g (f x) ∷ zs) (map_twice f g xs)

-- the edges us and ws of both ends in their orders, the partner of an edge of us, and the dart of its new edge at the
-- inner vertex of its part; values of the edges, and the edges of both ends for the darts of a new edge
module _ (us ws : List ℕ) (partner hat : ℕ → ℕ) (mirrored : IsTurn (reverse (map partner us)) ws)
    (value_u value_w key_a key_b : ℕ → ℕ) (first : (x : ℕ) → Has x us → key_a (hat x) ≡ x)
    (second : (x : ℕ) → Has x us → key_b (twin (hat x)) ≡ partner x) where
  -- the new edges in the order that the inner vertices of the first end keep
  abbrev pub hats : List ℕ
  hats = reverse (map hat us)

  -- their other darts stand in the order of us
  pub mirror-hats : mirror hats ≡ map (λ x. twin (hat x)) us
  mirror-hats =
      ap reverse (map-reverse twin (map hat us)) ∙ reverse-reverse (map twin (map hat us)) ∙ map_twice hat twin us

  -- the parts of the first end do not cross in it
  pub first-NoCross : NoCross value_u us → NoCross (λ d. value_u (key_a d)) hats
  first-NoCross apart =
      NoCross-reverse (λ d. value_u (key_a d)) (map hat us)
      (NoCross-map hat value_u (λ d. value_u (key_a d)) us (λ x h. ap value_u (first x h)) apart)

  -- nor those of the second end in its mirror
  pub second-NoCross : NoCross value_w ws → NoCross (λ d. value_w (key_b d)) (mirror hats)
  second-NoCross apart =
      let turned : NoCross value_w (reverse (map partner us)) =
      NoCross-turn value_w ws (reverse (map partner us)) (turn-sym (reverse (map partner us)) ws mirrored) apart in
      let forth : NoCross value_w (map partner us) =
      subst (NoCross value_w) (reverse-reverse (map partner us))
      (NoCross-reverse value_w (reverse (map partner us)) turned) in
      let at_us : NoCross (λ x. value_w (partner x)) us =
      map-NoCross partner (λ x. value_w (partner x)) value_w us (λ x h. refl) forth in
      subst (NoCross (λ d. value_w (key_b d))) (sym mirror-hats)
      (NoCross-map (λ x. twin (hat x)) (λ x. value_w (partner x)) (λ d. value_w (key_b d)) us
      (λ x h. ap value_w (second x h)) at_us)

  -- a new edge is that of an edge of us
  hat_of : (d : ℕ) → Has d hats → (x : ℕ) × Has x us × (hat x ≡ d)
  hat_of d h = map_on-Has hat d us (reverse-Has d (map hat us) h)

  -- so the inner vertices can be flat
  pub mirrored_ends-CanBeFlat : (e : ℕ) (parts_u parts_w : List (List ℕ)) → Distinct hats
      → ((d : ℕ) → Has d hats → d < 2 * e) → ((d : ℕ) → Has d hats → Lacks (twin d) hats)
      → TellsParts (λ d. value_u (key_a d)) key_a hats parts_u
      → TellsParts (λ d. value_w (key_b d)) key_b (mirror hats) parts_w
      → ((x : ℕ) → Has x us → Has x (flat parts_u)) → ((x : ℕ) → Has x us → Has (partner x) (flat parts_w))
      → NoCross value_u us → NoCross value_w ws
      → CanBeFlat e (part_copies key_a hats parts_u ++ part_copies key_b (mirror hats) parts_w)
  mirrored_ends-CanBeFlat e parts_u parts_w once low no_twin tells_u tells_w each_u each_w apart_u apart_w =
      inner_parts-CanBeFlat e hats key_a key_b (λ d. value_u (key_a d)) (λ d. value_w (key_b d)) parts_u parts_w once
      low no_twin (mirror-Distinct hats once) tells_u tells_w
      (λ d h. let r = hat_of d h in
      subst (λ x. Has x (flat parts_u)) (sym (first r.0 r.1) ∙ ap key_a r.2) (each_u r.0 r.1))
      (λ d h. let r = map_on-Has (λ x. twin (hat x)) d us (subst (Has d) mirror-hats h) in
      subst (λ x. Has x (flat parts_w)) (sym (second r.0 r.1) ∙ ap key_b r.2) (each_w r.0 r.1))
      (first-NoCross apart_u) (second-NoCross apart_w)

-- the other way round: new edges in an order hats in which the parts of the first end do not cross, nor those of the
-- second end in its mirror, and the partner of each edge of the first end
module _ (hats : List ℕ) (partner value_u value_w key_a key_b : ℕ → ℕ)
    (same : (d : ℕ) → Has d hats → key_b (twin d) ≡ partner (key_a d)) where
  -- the edges of both ends in their orders
  abbrev pub first_order : List ℕ
  first_order = map key_a (reverse hats)

  -- those of the second end, as their partners in reverse
  abbrev pub second_order : List ℕ
  second_order = reverse (map partner first_order)

  -- the parts of the first end do not cross in its list
  pub first_order-NoCross : NoCross (λ d. value_u (key_a d)) hats → NoCross value_u first_order
  first_order-NoCross apart =
      NoCross-map key_a (λ d. value_u (key_a d)) value_u (reverse hats) (λ x h. refl)
      (NoCross-reverse (λ d. value_u (key_a d)) hats apart)

  -- nor those of the second end in its list
  pub second_order-NoCross : NoCross (λ d. value_w (key_b d)) (mirror hats) → NoCross value_w second_order
  second_order-NoCross apart =
      let forth : NoCross (λ d. value_w (key_b d)) (map twin hats) =
      subst (NoCross (λ d. value_w (key_b d))) (reverse-reverse (map twin hats))
      (NoCross-reverse (λ d. value_w (key_b d)) (mirror hats) apart) in
      let on_hats : NoCross (λ d. value_w (partner (key_a d))) hats =
      map-NoCross twin (λ d. value_w (partner (key_a d))) (λ d. value_w (key_b d)) hats
      (λ x h. ap value_w (same x h)) forth in
      let at_first : NoCross (λ x. value_w (partner x)) first_order =
      NoCross-map key_a (λ d. value_w (partner (key_a d))) (λ x. value_w (partner x)) (reverse hats) (λ x h. refl)
      (NoCross-reverse (λ d. value_w (partner (key_a d))) hats on_hats) in
      NoCross-reverse value_w (map partner first_order)
      (NoCross-map partner (λ x. value_w (partner x)) value_w first_order (λ x h. refl) at_first)
