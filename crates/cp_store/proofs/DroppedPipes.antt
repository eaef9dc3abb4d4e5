-- The pipe of greatest degree can be dropped.
use Rattle.std.proofs.Common.{◌≡◌, ℕ, eqb, List, [], ◌∷◌, map, sym, ◌∙◌, subst, inl, inr, ⊎_elim}
use Rattle.std.specs.Prelude.{Some, find}
use Rattle.std.specs.List.{Contains}
use Rattle.std.proofs.lemmas.Bool.{cases_Bool, cond-false, eqb-true}
use Rattle.cp_lists.specs.CyclicLists.{Has}
use Rattle.cp_lists.proofs.DistinctLists.{Has-Contains}
use Rattle.cp_board.specs.declared.parts.Pipe.{Pipe}
use Rattle.cp_board.specs.declared.rewrite.Rewrite.{Rewrite}
use Rattle.cp_board.specs.Instances.{Synchronized, IsSynchronized, pipe_names}
use Rattle.cp_board.specs.Rewrites.{dropping, IsRewriteOf}
use Rattle.cp_board.specs.Runs.{IsGreatestName}
use Rattle.cp_board.proofs.DroppedPipes.{IsRewriteOf-dropping}
use Rattle.cp_store.proofs.ExchangedItems.{None-Some}

-- a pipe that is found has one of the names
named : (n : ℕ) (p : Pipe) (qs : List Pipe) → find (λ q. eqb q.name n) qs ≡ Some p → Has n (map (λ q. q.name) qs)
named n p [] e = absurd (None-Some p e)
named n p (q ∷ qs) e =
    ⊎_elim
    (λ b. inl (eqb-true q.name n b))
    (λ b. inr (named n p qs (sym (cond-false (eqb q.name n) (Some q) (find (λ x. eqb x.name n) qs) b) ∙ e)))
    (cases_Bool (eqb q.name n))

-- the pipe of greatest degree is live
greatest_live : (i : Synchronized) (name : ℕ) → IsGreatestName i name → Contains (pipe_names i) name
greatest_live i name w =
    subst (Contains (pipe_names i)) w.1 ((Has-Contains w.0.name (pipe_names i)).0 (named w.0.name w.0 i.pipes w.2.live))

-- the rewrite that drops it fits
pub IsRewriteOf-greatest : (i : Synchronized) (name : ℕ) (w : Rewrite) → IsSynchronized i → IsGreatestName i name
    → w ≡ dropping name → IsRewriteOf i w
IsRewriteOf-greatest i name w is greatest same =
    subst (IsRewriteOf i) (sym same) (IsRewriteOf-dropping i name is (greatest_live i name greatest))
