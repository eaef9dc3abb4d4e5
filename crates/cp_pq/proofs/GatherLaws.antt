-- Rows gathered node by node, and the inner nodes over them.
use Rattle.std.proofs.Common.{◌≡◌, ℕ, ◌+◌, ◌<◌, ◌≤◌, Bool, true, false, List, [], ◌∷◌, ◌++◌, length, filter, refl, sym, ap, ap₂, ◌∙◌, subst, append_assoc, arith}
use Rattle.std.specs.Prelude.{nat_lt}
use Rattle.std.specs.List.{list_all, AllZip}
use Rattle.std.proofs.lemmas.Bool.{and_from, lt-ltb}
use Rattle.std.proofs.lemmas.List.Folds.{list_all-append}
use Rattle.cp_pq.specs.declared.node.Node.{Node}
use Rattle.cp_pq.specs.declared.found.Found.{Found}
use Rattle.cp_pq.specs.declared.frame.Label.{Label}
use Rattle.cp_pq.specs.declared.frame.Frame.{Frame}
use Rattle.cp_pq.specs.declared.step.Top.{Top}
use Rattle.cp_pq.specs.declared.step.Place.{Place}
use Rattle.cp_pq.specs.declared.step.Step.{Step}
use Rattle.cp_pq.specs.declared.step.Row.{Row}
use Rattle.cp_pq.specs.Words.{Opposite, has_all, is_met}
use Rattle.cp_pq.specs.Founds.{IsGiven, is_in, flat_line}
use Rattle.cp_pq.specs.Frames.{node_of, kids_round, fill, AreOutside}
use Rattle.cp_pq.specs.Steps.{count_in, count_all, IsTop, IsStep, IsGathered}
use Rattle.cp_pq.proofs.FrameLaws.{fill_push, outside_push}
use Rattle.cp_pq.proofs.Counts.{count_push, count_append, count_cons, count_node, has_all_node, others_out, two_met}
use Rattle.cp_pq.proofs.Zips.{zip_push, zip_in, zip_out, zip_full, zip_empty}

module _ (q p : ℕ → Bool) (opp : Opposite q p) (total : ℕ) where
  -- a row without a place, and a node without one, are a row without a place
  pub open_open : (ks : List Node) (k : Node) (founds : List Found) (f : Found) (count more sum : ℕ)
      → sum ≡ count + more → IsGathered q p total ks (Row.Open founds count) → IsStep q p total k (Step.Open f more)
      → IsGathered q p total (ks ++ k ∷ []) (Row.Open (founds ++ f ∷ []) sum)
  open_open ks k founds f count more sum e g s = (
    zip_push q p ks founds k f g.0 s.0,
    e ∙ ap₂ (λ a b. a + b) g.1 s.1 ∙ sym (count_push p ks k),
    list_all-append (λ k. nat_lt (count_in p k) total) ks (k ∷ []) ∙ and_from _ _ g.2 (and_from _ _ (lt-ltb (count_in p k) total (subst (λ z. z < total) s.1 s.2)) refl),
  )

  -- a row with a place, and a node without one, are a row with this place
  pub root_open : (ks : List Node) (k : Node) (before after : List Found) (place : Place) (f : Found) (more : ℕ)
      → IsGathered q p total ks (Row.Root before place after) → IsStep q p total k (Step.Open f more)
      → IsGathered q p total (ks ++ k ∷ []) (Row.Root before place (after ++ f ∷ []))
  root_open ks k before after place f more g s =
      (g.0, g.1 ++ k ∷ [], g.2, ap (λ z. z ++ k ∷ []) g.3 ∙ append_assoc g.0 (g.2 ∷ g.1) (k ∷ []), g.4, zip_push q p g.1 after k f g.5 s.0, g.6, g.7)

  -- two nodes of a row that holds no more than the set do not both hold it whole
  pub root_root : (ks : List Node) (k : Node) (before after : List Found) (place next : Place) → 0 < total
      → count_all p (ks ++ k ∷ []) ≤ total → IsGathered q p total ks (Row.Root before place after)
      → IsStep q p total k (Step.Root next) → ⊥
  root_root ks k before after place next pos le g s =
      let a = count_push p ks k in
      let b = ap (count_all p) g.3 ∙ count_append p g.0 (g.2 ∷ g.1) in
      let c = count_cons p g.2 g.1 in
      let d = g.6 in let e = s.0 in
      omega (arith, a, b, c, d, e, le, pos)

  -- a node over a row with a place has this place, in one frame more
  pub closed_root : (label : Label) (ks : List Node) (before after : List Found) (place outer : Place)
      → count_all p ks ≤ total
      → outer.frames ≡ place.frames ++ record { label = label; before = flat_line before; after = flat_line after } ∷ []
      → outer.top ≡ place.top
      → IsGathered q p total ks (Row.Root before place after) → IsStep q p total (node_of label ks) (Step.Root outer)
  closed_root label ks before after place outer le frames top g =
      let b = ap (count_all p) g.3 ∙ count_append p g.0 (g.2 ∷ g.1) in
      let c = count_cons p g.2 g.1 in
      let d = g.6 in
      let n = count_node p label ks in
      let out = others_out q p opp g.0 g.1 g.2 total g.6 (subst (λ z. count_all p z ≤ total) g.3 le) in
      let first : flat_line before ≡ g.0 = zip_empty q p g.0 before g.4 (sym (zip_out q p g.0 before g.4) ∙ out.0) in
      let last : flat_line after ≡ g.1 = zip_empty q p g.1 after g.5 (sym (zip_out q p g.1 after g.5) ∙ out.1) in
      let at = g.7 in
      let f : Frame = record { label = label; before = flat_line before; after = flat_line after } in (
        omega (arith, n, b, c, d, le),
        (
          at.0,
          ap (λ z. node_of label z ∷ []) (g.3 ∙ ap₂ (λ x y. x ++ g.2 ∷ y) (sym first) (sym last)) ∙ ap (λ z. node_of label (kids_round f z) ∷ []) at.1 ∙ sym (fill_push place.frames f (at.0 ∷ [])) ∙ ap (λ z. fill z (at.0 ∷ [])) (sym frames),
          subst (AreOutside q) (sym frames) (outside_push q place.frames f at.2 (ap (list_all (has_all q)) first ∙ out.0) (ap (list_all (has_all q)) last ∙ out.1)),
          subst (IsTop q p at.0) (sym top) at.3,
        ),
      )

  -- a node over a row that holds less than the whole set is what it was found to be
  pub closed_open : (label : Label) (ks : List Node) (founds : List Found) (count : ℕ) (found : Found) → count < total
      → IsGathered q p total ks (Row.Open founds count) → IsGiven q p (node_of label ks) found
      → IsStep q p total (node_of label ks) (Step.Open found count)
  closed_open label ks founds count found lt g f = (f, g.1 ∙ sym (count_node p label ks), lt)

  -- a node over a row that holds the whole set, no kid of which does, is the place itself
  pub closed_top : (label : Label) (ks : List Node) (founds : List Found) (count : ℕ) (frames : List Frame) (top : Top)
      → 0 < total → total ≤ count → count_all p ks ≤ total → frames ≡ []
      → IsGathered q p total ks (Row.Open founds count)
      → (2 ≤ length (filter (is_met q) ks) → IsTop q p (node_of label ks) top)
      → IsStep q p total (node_of label ks) (Step.Root (record { frames = frames; top = top }))
  closed_top label ks founds count frames top pos ge le none g t =
      let n = count_node p label ks in let c = g.1 in (
        omega (arith, n, c, ge, le),
        (node_of label ks, ap (λ z. fill z (node_of label ks ∷ [])) (sym none), subst (AreOutside q) (sym none) tt, t (two_met q p opp total pos ks g.2 (omega (arith, c, ge)))),
      )

-- a whole node, or one that meets the set in two kids
module _ (q p : ℕ → Bool) (label : Label) (ks : List Node) (founds : List Found) (z : AllZip
    (IsGiven q p) ks founds) where
  -- the place is inside as a whole where all its kids are
  pub top_whole : (kids : List Node) → list_all is_in founds ≡ true → kids ≡ flat_line founds
      → IsTop q p (node_of label ks) (Top.Whole (node_of label kids))
  top_whole kids h e = (has_all_node p label ks ∙ zip_in q p ks founds z ∙ h, ap (node_of label) (e ∙ (zip_full q p ks founds z h).0))

  -- otherwise, where at least two of its kids meet the set, it is an inner node with what its kids were found to be
  pub top_met : list_all is_in founds ≡ false → 2 ≤ length (filter (is_met q) ks)
      → IsTop q p (node_of label ks) (Top.Met label founds)
  top_met h two = (ks, refl, z, has_all_node p label ks ∙ zip_in q p ks founds z ∙ h, two)
