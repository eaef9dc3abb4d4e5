-- The two pipes of FusePoles, and the instance without them.
use Rattle.std.proofs.Common.{◌≡◌, ◌≢◌, ℕ, true, false, Bool, ◌||◌, not, eqb, List, [], ◌∷◌, map, slice_index_or, sym, refl, ap, ◌∙◌, subst, inl, inr, ⊎_elim}
use Rattle.std.specs.Prelude.{Some, find}
use Rattle.std.specs.List.{All, filter}
use Rattle.std.proofs.lemmas.Bool.{cases_Bool, cond-false, cond-true, eqb-true, false≢true, ne_eqb, or_cases}
use Rattle.std.proofs.lemmas.List.Elements.{All-cons, All-head, All-nil, All-tail}
use Rattle.cp_board.specs.declared.parts.Pipe.{Pipe}
use Rattle.cp_board.specs.Names.{has}
use Rattle.cp_board.specs.Instances.{Synchronized, IsSynchronized, pipe_at, pipe_named}
use Rattle.cp_board.specs.Changes.{other_pipes}
use Rattle.cp_board.specs.Steps.{IsEnd, IsFusible}
use Rattle.cp_board.proofs.DroppedPipes.{IsSynchronized-fewer_pipes}
use Rattle.cp_board.proofs.NamedLists.{rises_from}
use Rattle.cp_board.proofs.NumberOfNewNames.{Distinct-from_rises}
use Rattle.cp_poles.proofs.FoundItems.{All-found, All-unfiltered}
use Rattle.cp_poles.proofs.FreePoles.{others_off}
use Rattle.cp_poles.proofs.PipePartners.{found_own}
use Rattle.cp_poles.proofs.ReorderedSolutions.{HasNoEnd}

-- what holds of all that pass holds of the rest
All-filtered : {A : Type 0} (t : A → Bool) (holds : A → Type 0) (xs : List A) → All (λ x. t x ≡ true → holds x) xs
    → All holds (filter t xs)
All-filtered t holds [] h = All-nil holds
All-filtered t holds (x ∷ xs) h =
    let rest = All-filtered t holds xs (All-tail (λ y. t y ≡ true → holds y) x xs h) in
    ⊎_elim
    (λ b. subst (All holds) (sym (cond-true (t x) (x ∷ filter t xs) (filter t xs) b))
    (All-cons holds x (filter t xs) (All-head (λ y. t y ≡ true → holds y) x xs h b) rest))
    (λ b. subst (All holds) (sym (cond-false (t x) (x ∷ filter t xs) (filter t xs) b)) rest)
    (cases_Bool (t x))

-- neither of two names is the one of two
neither : (a b : Bool) → not (a || (b || false)) ≡ true → (not (a || false) ≡ true) × (not (b || false) ≡ true)
neither true b e = absurd (false≢true e)
neither false true e = absurd (false≢true e)
neither false false e = (refl, refl)

-- each pipe of an instance is found under its name
pub named_own : (i : Synchronized) → IsSynchronized i → All (λ x. pipe_named i x.name ≡ Some x) i.pipes
named_own i is = found_own (λ x. x.name) i.pipes
    (Distinct-from_rises (map (λ x. x.name) i.pipes) (rises_from (map (λ x. x.name) i.pipes) is.pipes_named.rise))

-- the pipe q of a pole
module _ (i : Synchronized) (is : IsSynchronized i) (v : ℕ) (q : Pipe) (matched : pipe_at i v ≡ Some q) where
  -- is found under its name
  pub pole_named : pipe_named i q.name ≡ Some q
  pole_named = (All-found (λ x. eqb x.a v || eqb x.b v) (λ x. find (λ y. eqb y.name x.name) i.pipes ≡ Some x) i.pipes q
      (named_own i is) matched).0

  -- and the pole is an end of it
  pub pole_end : IsEnd q v
  pole_end =
      let t = (All-found (λ x. eqb x.a v || eqb x.b v) (λ x. find (λ y. eqb y.name x.name) i.pipes ≡ Some x) i.pipes q
      (named_own i is) matched).1 in
      ⊎_elim (λ e. inl (eqb-true q.a v e)) (λ e. inr (eqb-true q.b v e)) (or_cases (eqb q.a v) (eqb q.b v) t)

-- the instance without two pipes
abbrev pub without_two : Synchronized → Pipe → Pipe → Synchronized
without_two i p q = record { verts = i.verts; edges = i.edges; pipes = other_pipes i (p.name ∷ q.name ∷ []) }

-- the pipes p of the end u and q of its pole v
module _ (i : Synchronized) (pipe : ℕ) (p q : Pipe) (is : IsSynchronized i) (live : pipe_named i pipe ≡ Some p)
    (u v : ℕ) (fus : IsFusible i p q u v) where
  -- the pipe of the pole is found under its name, and the pole is an end of it
  pub q_live : pipe_named i q.name ≡ Some q
  q_live = pole_named i is v q fus.matched

  -- the pole is an end of it
  pub q_end : IsEnd q v
  q_end = pole_end i is v q fus.matched

  -- without the two pipes the instance keeps the rules
  pub IsSynchronized-without_two : IsSynchronized (without_two i p q)
  IsSynchronized-without_two = IsSynchronized-fewer_pipes i (λ r. not (has (p.name ∷ q.name ∷ []) r.name)) is

  -- the other pipes end at no end of p and at none of q
  pub others-no_end_p : (x : ℕ) → IsEnd p x → All (HasNoEnd x) (without_two i p q).pipes
  others-no_end_p x end = All-filtered (λ r. not (has (p.name ∷ q.name ∷ []) r.name)) (HasNoEnd x) i.pipes
      (λ k d lt t.
      let r : Pipe = slice_index_or i.pipes k d in
      All-unfiltered (λ y. not (has (p.name ∷ []) y.name)) (HasNoEnd x) i.pipes
      (others_off i pipe p is live x end) k d lt
      (neither (eqb r.name p.name) (eqb r.name q.name) t).0)

  -- nor at any end of q
  pub others-no_end_q : (x : ℕ) → IsEnd q x → All (HasNoEnd x) (without_two i p q).pipes
  others-no_end_q x end = All-filtered (λ r. not (has (p.name ∷ q.name ∷ []) r.name)) (HasNoEnd x) i.pipes
      (λ k d lt t.
      let r : Pipe = slice_index_or i.pipes k d in
      All-unfiltered (λ y. not (has (q.name ∷ []) y.name)) (HasNoEnd x) i.pipes
      (others_off i q.name q is q_live x end) k d lt
      (neither (eqb r.name p.name) (eqb r.name q.name) t).1)

  -- q ends at no end of p
  pub second-no_end_first : (x : ℕ) → IsEnd p x → HasNoEnd x q
  second-no_end_first x e =
      (All-found (λ r. eqb r.a v || eqb r.b v) (λ r. not (has (p.name ∷ []) r.name) ≡ true → HasNoEnd x r) i.pipes q
      (All-unfiltered (λ r. not (has (p.name ∷ []) r.name)) (HasNoEnd x) i.pipes (others_off i pipe p is live x e))
      fus.matched).0
      (ap (λ b. not (b || false)) (ne_eqb q.name p.name fus.another))

  -- so no end of q is one of p
  pub ends-apart : (x y : ℕ) → IsEnd p x → IsEnd q y → x ≢ y
  ends-apart x y ex ey e =
      let h = second-no_end_first x ex in
      ⊎_elim (λ at. h.0 (at ∙ sym e)) (λ at. h.1 (at ∙ sym e)) ey
