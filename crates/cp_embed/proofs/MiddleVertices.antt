-- How a vertex reads between a connected part and one other vertex of a flat map.
use Rattle.std.proofs.Common.{◌≡◌, ℕ, ◌*◌, ◌⊎◌, Bool, false, List, [], ◌∷◌, ◌++◌, append_assoc, append-nil, sym, refl, ap, ap₂, ◌∙◌, subst, inl, inr, ⊎_elim}
use Rattle.std.specs.List.{filter}
use Rattle.std.proofs.lemmas.List.Elements.{filter-append}
use Rattle.cp_lists.specs.CyclicLists.{Distinct, Has}
use Rattle.cp_lists.specs.Turns.{IsTurn}
use Rattle.cp_lists.proofs.DistinctLists.{Distinct-apart, Distinct-append_left, Distinct-append_right, Has-append_cases, Has-append_left, Has-append_right, Lacks-append_left, Lacks-from, has_lacks}
use Rattle.cp_lists.proofs.FilteredLists.{filter-Has, filter_all}
use Rattle.cp_lists.proofs.TurnedLists.{Has-of_turn, turn-Has, turn-trans, turn_parts, turn_same}
use Rattle.cp_faces.specs.Twins.{twin}
use Rattle.cp_faces.proofs.Twins.{twin-twin}
use Rattle.cp_maps.specs.Genus.{IsFlat}
use Rattle.cp_maps.specs.Maps.{IsMapOf, has}
use Rattle.cp_maps.specs.Mirrors.{mirror}
use Rattle.cp_maps.proofs.ListFacts.{from_dart, has_no, has_yes, its_item, other_item}
use Rattle.cp_maps.proofs.MapLists.{IsMapOf-swap, IsMapOf-third, IsMapOf-turn}
use Rattle.cp_embed.specs.Steps.{StandsBetween}
use Rattle.cp_embed.proofs.Lists.{filter_none, mirror-Has, mirror-append}
use Rattle.cp_embed.proofs.ThreeVertices.{seen_vertex-IsTurn}

-- three vertices, where ws and the third are joined by an edge, and ws and row too
module _ (e : ℕ) (f : ℕ → ℕ) (r i : ℕ) (ws row w : List ℕ) (is : IsMapOf (2 * e) f (ws ∷ row ∷ (r ∷ w) ∷ []))
    (root : Has (twin r) ws) (one : Has i row) (one_in : Has (twin i) ws)
    (of_row : (d : ℕ) → Has d row → Has (twin d) ws ⊎ Has (twin d) w)
    (of_w : (d : ℕ) → Has d w → Has (twin d) ws ⊎ Has (twin d) row) (z : IsFlat e f) where
  -- the lists have no item in common
  ws_row : (d : ℕ) → Has d ws → Has d row → ⊥
  ws_row d h k = has_lacks d row k
      (Lacks-append_left d row ((r ∷ w) ++ []) (Distinct-apart d ws (row ++ ((r ∷ w) ++ [])) is.once h))

  -- also the first and the third
  ws_rest : (d : ℕ) → Has d ws → Has d (r ∷ w) → ⊥
  ws_rest d h k = has_lacks d (row ++ ((r ∷ w) ++ []))
      (Has-append_right d row ((r ∷ w) ++ []) (Has-append_left d (r ∷ w) [] k))
      (Distinct-apart d ws (row ++ ((r ∷ w) ++ [])) is.once h)

  -- also the second and the third
  row_rest : (d : ℕ) → Has d row → Has d (r ∷ w) → ⊥
  row_rest d h k = has_lacks d ((r ∷ w) ++ []) (Has-append_left d (r ∷ w) [] k)
      (Distinct-apart d row ((r ∷ w) ++ []) (Distinct-append_right ws (row ++ ((r ∷ w) ++ [])) is.once) h)

  -- twins of one dart
  twins_same : (c d : ℕ) → twin c ≡ twin d → c ≡ d
  twins_same c d h = sym (twin-twin c) ∙ ap twin h ∙ twin-twin d

  -- the darts of row are distinct
  row_distinct : Distinct row
  row_distinct = Distinct-append_left row ((r ∷ w) ++ []) (Distinct-append_right ws (row ++ ((r ∷ w) ++ [])) is.once)

  -- and those of the third list
  rest_distinct : Distinct (r ∷ w)
  rest_distinct = Distinct-append_left (r ∷ w) []
      (Distinct-append_right row ((r ∷ w) ++ []) (Distinct-append_right ws (row ++ ((r ∷ w) ++ [])) is.once))

  -- ws from the root
  at_root : (us : List ℕ) × (vs : List ℕ) × (ws ≡ us ++ twin r ∷ vs)
  at_root = from_dart (twin r) ws root

  -- the others of ws
  abbrev past_root : List ℕ
  past_root = at_root.1 ++ at_root.0

  -- the test that is used first
  abbrev to_row : ℕ → Bool
  to_row d = has (twin d) row

  -- the edges of row to ws
  abbrev ins : List ℕ
  ins = mirror (filter to_row past_root)

  -- the others
  abbrev outs : List ℕ
  outs = mirror (filter to_row w)

  -- the map in the order of the first use
  is_root : IsMapOf (2 * e) f ((twin r ∷ past_root) ∷ (twin (twin r) ∷ w) ∷ row ∷ [])
  is_root = subst (λ y. IsMapOf (2 * e) f ((twin r ∷ past_root) ∷ (y ∷ w) ∷ row ∷ [])) (sym (twin-twin r))
      (IsMapOf-turn (2 * e) f (at_root.0 ++ twin r ∷ at_root.1) (twin r ∷ past_root) ((r ∷ w) ∷ row ∷ [])
      (turn_parts at_root.0 (twin r ∷ at_root.1))
      (subst (λ us. IsMapOf (2 * e) f (us ∷ (r ∷ w) ∷ row ∷ [])) at_root.2
      (IsMapOf-swap (2 * e) f (r ∷ w) ws (row ∷ []) (IsMapOf-third (2 * e) f ws row (r ∷ w) [] is))))

  -- row reads its edges to w, then those to ws
  row_reads : IsTurn row (outs ++ ins)
  row_reads = subst (IsTurn row) (ap mirror (filter-append to_row past_root w)
      ∙ mirror-append (filter to_row past_root) (filter to_row w))
      (seen_vertex-IsTurn e f (twin r) past_root w row is_root (λ d h. ⊎_elim
      (λ k. ⊎_elim
      (λ same. absurd (row_rest d h (inl (twins_same r d same))))
      (λ m. Has-append_left (twin d) past_root w m)
      (other_item (twin d) (twin r) ws at_root.0 at_root.1 at_root.2 k))
      (λ k. Has-append_right (twin d) past_root w k)
      (of_row d h)) z)

  -- the other way round
  turned : IsTurn row (ins ++ outs)
  turned = turn-trans row (outs ++ ins) (ins ++ outs) row_reads (turn_parts outs ins)

  -- those in ins lead to ws
  lead_in : (d : ℕ) → Has d ins → Has (twin d) ws
  lead_in d h = its_item (twin d) (twin r) ws at_root.0 at_root.1 at_root.2
      (filter-Has to_row (twin d) past_root (mirror-Has d (filter to_row past_root) h)).0

  -- those in outs lead to w
  lead_out : (d : ℕ) → Has d outs → Has (twin d) w
  lead_out d h = (filter-Has to_row (twin d) w (mirror-Has d (filter to_row w) h)).0

  -- the given edge is among the first
  one_ins : Has i ins
  one_ins = ⊎_elim (λ k. k) (λ k. absurd (ws_rest (twin i) one_in (inr (lead_out i k))))
      (Has-append_cases i ins outs (turn-Has row (ins ++ outs) i turned one))

  -- around it
  at_one : (us : List ℕ) × (vs : List ℕ) × (ins ≡ us ++ i ∷ vs)
  at_one = from_dart i ins one_ins

  -- row behind it
  abbrev past_one : List ℕ
  past_one = (at_one.1 ++ outs) ++ at_one.0

  -- row turned to begin with it
  from_one : IsTurn row (i ∷ past_one)
  from_one = turn-trans row (at_one.0 ++ ((i ∷ at_one.1) ++ outs)) (i ∷ past_one)
      (subst (IsTurn row) (ap (λ us. us ++ outs) at_one.2 ∙ append_assoc at_one.0 (i ∷ at_one.1) outs) turned)
      (turn_parts at_one.0 ((i ∷ at_one.1) ++ outs))

  -- ws from the other end of it
  at_end : (us : List ℕ) × (vs : List ℕ) × (ws ≡ us ++ twin i ∷ vs)
  at_end = from_dart (twin i) ws one_in

  -- the others of ws
  abbrev past_end : List ℕ
  past_end = at_end.1 ++ at_end.0

  -- the map in the order of the second use
  is_one : IsMapOf (2 * e) f ((twin i ∷ past_end) ∷ (twin (twin i) ∷ past_one) ∷ (r ∷ w) ∷ [])
  is_one = subst (λ y. IsMapOf (2 * e) f ((twin i ∷ past_end) ∷ (y ∷ past_one) ∷ (r ∷ w) ∷ [])) (sym (twin-twin i))
      (IsMapOf-turn (2 * e) f (at_end.0 ++ twin i ∷ at_end.1) (twin i ∷ past_end) ((i ∷ past_one) ∷ (r ∷ w) ∷ [])
      (turn_parts at_end.0 (twin i ∷ at_end.1))
      (subst (λ us. IsMapOf (2 * e) f (us ∷ (i ∷ past_one) ∷ (r ∷ w) ∷ [])) at_end.2
      (IsMapOf-swap (2 * e) f (i ∷ past_one) ws ((r ∷ w) ∷ [])
      (IsMapOf-turn (2 * e) f row (i ∷ past_one) (ws ∷ (r ∷ w) ∷ []) from_one
      (IsMapOf-swap (2 * e) f ws row ((r ∷ w) ∷ []) is)))))

  -- the test that is used then
  abbrev to_rest : ℕ → Bool
  to_rest d = has (twin d) (r ∷ w)

  -- none of the edges to ws passes
  fails : (d : ℕ) → Has d ins → to_rest d ≡ false
  fails d h = has_no (twin d) (r ∷ w) (Lacks-from (twin d) (r ∷ w) (ws_rest (twin d) (lead_in d h)))

  -- so what passes is outs
  passes : filter to_rest past_one ≡ outs
  passes = filter-append to_rest (at_one.1 ++ outs) at_one.0
      ∙ ap₂ (λ us vs. us ++ vs)
      (filter-append to_rest at_one.1 outs ∙ ap₂ (λ us vs. us ++ vs)
      (filter_none to_rest at_one.1 (λ d h. fails d
      (subst (Has d) (sym at_one.2) (Has-append_right d at_one.0 (i ∷ at_one.1) (inr h)))))
      (filter_all to_rest outs (λ d h. has_yes (twin d) (r ∷ w) (inr (lead_out d h)))))
      (filter_none to_rest at_one.0 (λ d h. fails d
      (subst (Has d) (sym at_one.2) (Has-append_left d at_one.0 (i ∷ at_one.1) h))))
      ∙ append-nil outs

  -- a dart of ws is the end of that edge, or one of the others
  ends : (d : ℕ) → Has d (r ∷ w) → Has (twin d) ws → Has (twin d) (past_end ++ past_one)
  ends d h k = ⊎_elim
      (λ same. absurd (row_rest i one (subst (λ y. Has y (r ∷ w)) (sym (twins_same i d same)) h)))
      (λ m. Has-append_left (twin d) past_end past_one m)
      (other_item (twin d) (twin i) ws at_end.0 at_end.1 at_end.2 k)

  -- what the third list reads of ws
  abbrev through : List ℕ
  through = mirror (filter to_rest past_end)

  -- the third list
  rest_reads : IsTurn (r ∷ w) (mirror outs ++ through)
  rest_reads = subst (IsTurn (r ∷ w))
      (ap mirror (filter-append to_rest past_end past_one ∙ ap (λ us. filter to_rest past_end ++ us) passes)
      ∙ mirror-append (filter to_rest past_end) outs)
      (seen_vertex-IsTurn e f (twin i) past_end past_one (r ∷ w) is_one (λ d h. ⊎_elim
      (λ same. ends d h (subst (λ y. Has (twin y) ws) same root))
      (λ k. ⊎_elim
      (λ m. ends d h m)
      (λ m. ⊎_elim
      (λ same. absurd (ws_rest (twin i) one_in (subst (λ y. Has y (r ∷ w)) (sym (twin-twin d) ∙ ap twin (sym same)) h)))
      (λ l. Has-append_right (twin d) past_end past_one l)
      (turn-Has row (i ∷ past_one) (twin d) from_one m))
      (of_w d k))
      h) z)

  -- the root is not in the run
  root_through : Has r through
  root_through = ⊎_elim
      (λ k. absurd (ws_row (twin r) root
      (Has-of_turn row (ins ++ outs) (twin r) turned (Has-append_right (twin r) ins outs (mirror-Has r outs k)))))
      (λ k. k)
      (Has-append_cases r (mirror outs) through (turn-Has (r ∷ w) (mirror outs ++ through) r rest_reads (inl refl)))

  -- around it
  at_through : (us : List ℕ) × (vs : List ℕ) × (through ≡ us ++ r ∷ vs)
  at_through = from_dart r through root_through

  -- so row reads as it should
  pub three_vertices-StandsBetween : StandsBetween ws row w
  three_vertices-StandsBetween = record {
    ins = ins;
    outs = outs;
    front = at_through.1;
    behind = at_through.0;
    turn = turned;
    whole = turn_same r w (at_through.1 ++ (mirror outs ++ at_through.0)) rest_distinct.0
        (turn-trans (r ∷ w) ((mirror outs ++ at_through.0) ++ r ∷ at_through.1)
        (r ∷ (at_through.1 ++ (mirror outs ++ at_through.0)))
        (subst (IsTurn (r ∷ w)) (ap (λ us. mirror outs ++ us) at_through.2
        ∙ sym (append_assoc (mirror outs) at_through.0 (r ∷ at_through.1))) rest_reads)
        (turn_parts (mirror outs ++ at_through.0) (r ∷ at_through.1)));
    into = lead_in;
  }
