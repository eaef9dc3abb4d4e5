-- Two flat maps side by side are flat.
use Rattle.std.proofs.Common.{◌≡◌, ℕ, ◌<◌, sym, ap, ◌∙◌, subst, ⊎_elim, ◌+◌, ◌*◌, arith, ◌-◌}
use Rattle.std.proofs.lemmas.Bool.{cases_lt}
use Rattle.cp_orbits.specs.Classes.{Respects, beside, classes, labels, orbits}
use Rattle.cp_orbits.specs.Orbits.{Permutes}
use Rattle.cp_orbits.proofs.ClassLabels.{labels-respects}
use Rattle.cp_orbits.proofs.OrbitLaws.{Respects-graph, graph-respects, orbits_agree}
use Rattle.cp_faces.specs.Faces.{face_upto, partner}
use Rattle.cp_faces.proofs.Merges.{face_upto-partner}
use Rattle.cp_faces.proofs.Parts.{beside_high, beside_low, classes_beside, orbits_beside, partner_more, partner_shift}
use Rattle.cp_faces.proofs.Renaming.{partner-within}
use Rattle.cp_maps.specs.Genus.{IsFlat, linked, parts, rounds}
use Rattle.cp_maps.proofs.FlatMaps.{linked-edges, linked-from, linked-graph}

module _ (e k : ℕ) (f g h : ℕ → ℕ) (perm_f : Permutes (2 * e) f) (perm_g : Permutes (2 * k) g)
    (low : (d : ℕ) → d < 2 * e → h d ≡ f d) (high : (d : ℕ) → d < 2 * k → h (2 * e + d) ≡ 2 * e + g d) where
  -- all darts
  whole : 2 * (e + k) ≡ 2 * e + 2 * k
  whole = omega arith

  -- a dart of the two is one of the first or one of the second
  pub either : (P : ℕ → Type 0) → ((d : ℕ) → d < 2 * e → P d) → ((d : ℕ) → d < 2 * k → P (2 * e + d)) → (d : ℕ)
      → d < 2 * e + 2 * k → P d
  either P one two d lt =
      ⊎_elim (one d) (λ q. let all : 2 * e + (d - 2 * e) ≡ d = omega arith in
      subst P all (two (d - 2 * e) (omega arith))) (cases_lt d (2 * e))

  -- two permutations side by side are one
  pub Permutes-union : Permutes (2 * (e + k)) h
  Permutes-union = record {
    below =
        λ d lt. either (λ x. h x < 2 * (e + k)) (λ x l. omega (arith, low x l, perm_f.below x l))
        (λ x l. omega (arith, high x l, perm_g.below x l)) d (omega arith);
    apart = λ c d ltc ltd. either (λ x. h x ≡ h d → x ≡ d)
        (λ x l. either (λ y. h x ≡ h y → x ≡ y)
        (λ y m q. perm_f.apart x y l m (sym (low x l) ∙ q ∙ low y m))
        (λ y m q. absurd (omega (arith, q, low x l, high y m, perm_f.below x l)))
        d (omega arith))
        (λ x l. either (λ y. h (2 * e + x) ≡ h y → 2 * e + x ≡ y)
        (λ y m q. absurd (omega (arith, q, high x l, low y m, perm_f.below y m)))
        (λ y m q. let inner : g x ≡ g y = omega (arith, q, high x l, high y m) in
        ap (λ (z : ℕ). 2 * e + z) (perm_g.apart x y l m inner))
        d (omega arith))
        c (omega arith);
  }

  -- the links of the first, and of the second behind them
  abbrev both : ℕ → ℕ
  both = beside (2 * e) (linked f (2 * e) e) (linked g (2 * k) k)

  -- the labels of the first
  abbrev one : ℕ → ℕ
  one = labels (linked f (2 * e) e)

  -- the labels of the second
  abbrev two : ℕ → ℕ
  two = labels (linked g (2 * k) k)

  -- the labels of both
  abbrev all : ℕ → ℕ
  all = labels (linked h (2 * (e + k)) (e + k))

  -- what has one value along all steps and edges
  all_respects : Respects all (linked h (2 * (e + k)) (e + k))
  all_respects = labels-respects (linked h (2 * (e + k)) (e + k))

  -- the parts add up
  parts-union : parts (e + k) h ≡ parts e f + parts k g
  parts-union = ap (λ (n : ℕ). classes n (linked h (2 * (e + k)) (e + k))) whole
      ∙ classes_beside (2 * e) (2 * k) (linked f (2 * e) e) (linked g (2 * k) k) (linked h (2 * (e + k)) (e + k))
      (linked-from both h (2 * (e + k)) (e + k)
      (Respects-graph both h (2 * (e + k)) (λ d lt. either (λ x. both x ≡ both (h x))
      (λ x l. beside_low (2 * e) (linked f (2 * e) e) (linked g (2 * k) k) x l
      ∙ graph-respects one f (2 * e) x (linked-graph one f (2 * e) e (labels-respects (linked f (2 * e) e))) l
      ∙ sym (ap both (low x l) ∙ beside_low (2 * e) (linked f (2 * e) e) (linked g (2 * k) k) (f x) (perm_f.below x l)))
      (λ x l. beside_high (2 * e) (linked f (2 * e) e) (linked g (2 * k) k) x
      ∙ ap (λ (y : ℕ). 2 * e + y) (graph-respects two g (2 * k) x
      (linked-graph two g (2 * k) k (labels-respects (linked g (2 * k) k))) l)
      ∙ sym (ap both (high x l) ∙ beside_high (2 * e) (linked f (2 * e) e) (linked g (2 * k) k) (g x)))
      d (omega arith)))
      (λ i lt. ⊎_elim
      (λ l. beside_low (2 * e) (linked f (2 * e) e) (linked g (2 * k) k) (2 * i) (omega arith)
      ∙ linked-edges one f (2 * e) e (labels-respects (linked f (2 * e) e)) i l
      ∙ sym (beside_low (2 * e) (linked f (2 * e) e) (linked g (2 * k) k) (2 * i + 1) (omega arith)))
      (λ q.
      let j : ℕ = i - e in
      let even : 2 * e + 2 * j ≡ 2 * i = omega arith in
      let odd : 2 * e + (2 * j + 1) ≡ 2 * i + 1 = omega arith in
      ap both (sym even) ∙ beside_high (2 * e) (linked f (2 * e) e) (linked g (2 * k) k) (2 * j)
      ∙ ap (λ (y : ℕ). 2 * e + y) (linked-edges two g (2 * k) k (labels-respects (linked g (2 * k) k)) j
      (omega arith)) ∙ sym (beside_high (2 * e) (linked f (2 * e) e) (linked g (2 * k) k) (2 * j + 1)) ∙ ap both odd)
      (cases_lt i e)))
      (linked-from all f (2 * e) e
      (Respects-graph all f (2 * e)
      (λ x l. graph-respects all h (2 * (e + k)) x (linked-graph all h (2 * (e + k)) (e + k) all_respects)
      (omega arith) ∙ ap all (low x l)))
      (λ i lt. linked-edges all h (2 * (e + k)) (e + k) all_respects i (omega arith)))
      (linked-from (λ x. all (2 * e + x)) g (2 * k) k
      (Respects-graph (λ x. all (2 * e + x)) g (2 * k)
      (λ x l. graph-respects all h (2 * (e + k)) (2 * e + x) (linked-graph all h (2 * (e + k)) (e + k) all_respects)
      (omega arith) ∙ ap all (high x l)))
      (λ i lt.
      let even : 2 * e + 2 * i ≡ 2 * (e + i) = omega arith in
      let odd : 2 * (e + i) + 1 ≡ 2 * e + (2 * i + 1) = omega arith in
      ap all even ∙ linked-edges all h (2 * (e + k)) (e + k) all_respects (e + i) (omega arith) ∙ ap all odd))

  -- the vertices add up
  orbits-union : orbits (2 * (e + k)) h ≡ orbits (2 * e) f + orbits (2 * k) g
  orbits-union = ap (λ (n : ℕ). orbits n h) whole
      ∙ orbits_beside (2 * e) (2 * k) h g (λ x l. omega (arith, low x l, perm_f.below x l)) high
      ∙ ap (λ (n : ℕ). n + orbits (2 * k) g) (orbits_agree h f (2 * e) low)

  -- the step round the faces of the first
  faces-low : (d : ℕ) → d < 2 * e → face_upto h (e + k) d ≡ face_upto f e d
  faces-low d lt = face_upto-partner (e + k) h d ∙ ap h (partner_more e k d lt)
      ∙ low (partner e d) (partner-within e d lt) ∙ sym (face_upto-partner e f d)

  -- and of the second
  faces-high : (d : ℕ) → d < 2 * k → face_upto h (e + k) (2 * e + d) ≡ 2 * e + face_upto g k d
  faces-high d lt = face_upto-partner (e + k) h (2 * e + d) ∙ ap h (partner_shift e k d lt)
      ∙ high (partner k d) (partner-within k d lt) ∙ ap (λ (y : ℕ). 2 * e + y) (sym (face_upto-partner k g d))

  -- the faces add up
  rounds-union : rounds (e + k) h ≡ rounds e f + rounds k g
  rounds-union = ap (λ (n : ℕ). orbits n (face_upto h (e + k))) whole
      ∙ orbits_beside (2 * e) (2 * k) (face_upto h (e + k)) (face_upto g k)
      (λ x l. omega (
        arith,
        faces-low x l
            ∙ face_upto-partner e f x,
        perm_f.below (partner e x) (partner-within e x l),
      )) faces-high
      ∙ ap (λ (n : ℕ). n + rounds k g) (orbits_agree (face_upto h (e + k)) (face_upto f e) (2 * e) faces-low)

  -- two flat maps side by side make a flat one
  pub IsFlat-union : IsFlat e f → IsFlat k g → IsFlat (e + k) h
  IsFlat-union flat_f flat_g = omega (arith, parts-union, orbits-union, rounds-union, flat_f, flat_g)
