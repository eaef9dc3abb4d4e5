-- The indexes of the instances of a store, when a rewrite comes and when one is taken back.
use Rattle.std.proofs.Common.{◌≡◌, ℕ, ◌≤◌, Bool, List, [], ◌∷◌, ◌++◌, length, reverse, sym, refl, ap, ◌∙◌, subst, arith}
use Rattle.std.proofs.lemmas.List.{reverse-append}
use Rattle.cp_board.specs.Instances.{Synchronized}
use Rattle.cp_store.specs.declared.links.Link.{Link}
use Rattle.cp_store.specs.declared.links.Roots.{Roots}
use Rattle.cp_store.specs.declared.parts.Change.{Change}
use Rattle.cp_store.specs.Forests.{items_at, Keeps}
use Rattle.cp_store.specs.Links.{AreLinks, HasLinks}
use Rattle.cp_store.specs.PipeLinks.{HasPipeLinks}
use Rattle.cp_store.specs.Parts.{undone}
use Rattle.cp_store.specs.Indexes.{AreLinkedBefore, IsLinked, IsIndexed, edge_ends, pipe_ranks, pipe_poles}
use Rattle.cp_store.proofs.Indexes.{HasLinks-keeps}

module _ (root : Roots → ℕ) (test : Synchronized → ℕ → ℕ → Bool) where
  -- trees among the first nodes stay where these are kept
  AreLinkedBefore-through : (ls ms : List (List Link)) (mark : ℕ) (cs : List Change) (i : Synchronized)
      → mark ≤ length ms
      → ((r : ℕ) → r ≤ mark → items_at ms r ≡ items_at ls r)
      → AreLinkedBefore root test ls mark cs i → AreLinkedBefore root test ms mark cs i
  AreLinkedBefore-through ls ms mark [] i long same are = tt
  AreLinkedBefore-through ls ms mark (c ∷ cs) i long same are = (
    are.0,
    are.1,
    record {
      within = omega (arith, are.0, are.1, long);
      links = subst (AreLinks (test (undone c i))) (sym (same (root c.roots) (omega (arith, are.0, are.1))))
          are.2.links;
    },
    AreLinkedBefore-through ls ms c.mark cs (undone c i) (omega (arith, are.0, long))
        (λ r le. same r (omega (arith, le, are.0))) are.3,
  )

  -- the trees before the changes lie among more nodes too
  AreLinkedBefore-more : (ls : List (List Link)) (mark more : ℕ) (cs : List Change) (i : Synchronized) → mark ≤ more
      → AreLinkedBefore root test ls mark cs i → AreLinkedBefore root test ls more cs i
  AreLinkedBefore-more ls mark more [] i le are = tt
  AreLinkedBefore-more ls mark more (c ∷ cs) i le are = (omega (arith, le, are.0), are.1, are.2, are.3)

  -- more nodes, and the same instance
  IsLinked-keeps : (ls ms : List (List Link)) (roots : Roots) (log : List Change) (i j : Synchronized)
      → Keeps ls ms → j ≡ i
      → IsLinked root test ls roots log i → IsLinked root test ms roots log j
  IsLinked-keeps ls ms roots log i j keeps same is =
      subst (IsLinked root test ms roots log) (sym same) record {
        now = HasLinks-keeps ls ms (root roots) (test i) keeps is.now;
        before = AreLinkedBefore-more ms (length ls) (length ms) (reverse log) i keeps.longer
            (AreLinkedBefore-through ls ms (length ls) (reverse log) i keeps.longer keeps.same is.before);
      }

  -- one change more
  IsLinked-pushed : (ls ms : List (List Link)) (roots new : Roots) (log : List Change) (c : Change)
      (i j : Synchronized)
      → Keeps ls ms
      → c.mark ≡ length ls → c.roots ≡ roots → undone c j ≡ i
      → HasLinks ms (root new) (test j)
      → IsLinked root test ls roots log i
      → IsLinked root test ms new (log ++ c ∷ []) j
  IsLinked-pushed ls ms roots new log c i j keeps mark was back has is =
      let old = IsLinked-keeps ls ms roots log i i keeps refl is in
      let through = AreLinkedBefore-through ls ms (length ls) (reverse log) i keeps.longer keeps.same is.before in
      let same : root c.roots ≡ root roots = ap root was in
      record {
        now = has;
        before = subst (λ cs. AreLinkedBefore root test ms (length ms) cs j) (sym (reverse-append log (c ∷ []))) (
          omega (arith, mark, keeps.longer),
          omega (arith, mark, same, is.now.within),
          subst (λ k. HasLinks ms (root c.roots) (test k)) (sym back)
              (subst (λ r. HasLinks ms r (test i)) (sym same) old.now),
          subst (λ k. AreLinkedBefore root test ms c.mark (reverse log) k) (sym back)
              (subst (λ k. AreLinkedBefore root test ms k (reverse log) i) (sym mark) through),
        );
      }

  -- what is known of the last change
  last_change : (ls : List (List Link)) (roots : Roots) (whole log : List Change) (c : Change) (i : Synchronized)
      → whole ≡ log ++ c ∷ []
      → IsLinked root test ls roots whole i → AreLinkedBefore root test ls (length ls) (c ∷ reverse log) i
  last_change ls roots whole log c i last is =
      subst (λ cs. AreLinkedBefore root test ls (length ls) cs i)
      (ap reverse last ∙ reverse-append log (c ∷ [])) is.before

  -- one change fewer
  IsLinked-popped : (ls ms : List (List Link)) (roots : Roots) (whole log : List Change) (c : Change)
      (i j : Synchronized)
      → whole ≡ log ++ c ∷ []
      → length ms ≡ c.mark → Keeps ms ls → j ≡ undone c i
      → IsLinked root test ls roots whole i
      → IsLinked root test ms c.roots log j
  IsLinked-popped ls ms roots whole log c i j last size keeps same is =
      let are = last_change ls roots whole log c i last is in
      let kept : (r : ℕ) → r ≤ c.mark
      → items_at ms r ≡ items_at ls r = λ r le. sym (keeps.same r (omega (arith, le, size))) in
      subst (IsLinked root test ms c.roots log) (sym same) record {
        now = record {
          within = omega (arith, size, are.1);
          links = subst (AreLinks (test (undone c i))) (sym (kept (root c.roots) are.1)) are.2.links;
        };
        before = subst (λ k. AreLinkedBefore root test ms k (reverse log) (undone c i)) (sym size)
            (AreLinkedBefore-through ls ms c.mark (reverse log) (undone c i) (omega (arith, size)) kept are.3);
      }

-- more nodes, and the same instance
pub IsIndexed-keeps : (ls ms : List (List Link)) (roots : Roots) (log : List Change) (i j : Synchronized)
    → Keeps ls ms → j ≡ i
    → IsIndexed ls roots log i → IsIndexed ms roots log j
IsIndexed-keeps ls ms roots log i j keeps same is = record {
  ends = IsLinked-keeps (λ r. r.ends) edge_ends ls ms roots log i j keeps same is.ends;
  ranks = IsLinked-keeps (λ r. r.pipes.ranks) pipe_ranks ls ms roots log i j keeps same is.ranks;
  poles = IsLinked-keeps (λ r. r.pipes.poles) pipe_poles ls ms roots log i j keeps same is.poles;
}

-- one change more
pub IsIndexed-pushed : (ls ms : List (List Link)) (roots new : Roots) (log : List Change) (c : Change)
    (i j : Synchronized)
    → Keeps ls ms
    → c.mark ≡ length ls → c.roots ≡ roots → undone c j ≡ i
    → HasLinks ms new.ends (edge_ends j)
    → HasPipeLinks ms new.pipes j.pipes
    → IsIndexed ls roots log i
    → IsIndexed ms new (log ++ c ∷ []) j
IsIndexed-pushed ls ms roots new log c i j keeps mark was back ends pipes is = record {
  ends = IsLinked-pushed (λ r. r.ends) edge_ends ls ms roots new log c i j keeps mark was back ends is.ends;
  ranks = IsLinked-pushed (λ r. r.pipes.ranks) pipe_ranks ls ms roots new log c i j keeps mark was back pipes.ranks
      is.ranks;
  poles = IsLinked-pushed (λ r. r.pipes.poles) pipe_poles ls ms roots new log c i j keeps mark was back pipes.poles
      is.poles;
}

-- the mark of the last change lies among the nodes
pub mark-popped : (ls : List (List Link)) (roots : Roots) (whole log : List Change) (c : Change) (i : Synchronized)
    → whole ≡ log ++ c ∷ []
    → IsIndexed ls roots whole i → c.mark ≤ length ls
mark-popped ls roots whole log c i last is =
    (last_change (λ r. r.ends) edge_ends ls roots whole log c i last is.ends).0

-- one change fewer
pub IsIndexed-popped : (ls ms : List (List Link)) (roots : Roots) (whole log : List Change) (c : Change)
    (i j : Synchronized)
    → whole ≡ log ++ c ∷ []
    → length ms ≡ c.mark → Keeps ms ls → j ≡ undone c i
    → IsIndexed ls roots whole i
    → IsIndexed ms c.roots log j
IsIndexed-popped ls ms roots whole log c i j last size keeps same is = record {
  ends = IsLinked-popped (λ r. r.ends) edge_ends ls ms roots whole log c i j last size keeps same is.ends;
  ranks = IsLinked-popped (λ r. r.pipes.ranks) pipe_ranks ls ms roots whole log c i j last size keeps same is.ranks;
  poles = IsLinked-popped (λ r. r.pipes.poles) pipe_poles ls ms roots whole log c i j last size keeps same is.poles;
}

-- the pipes of an indexed instance have their links
pub HasPipeLinks-indexed : (ls : List (List Link)) (roots : Roots) (log : List Change) (i : Synchronized)
    → IsIndexed ls roots log i → HasPipeLinks ls roots.pipes i.pipes
HasPipeLinks-indexed ls roots log i is = record { ranks = is.ranks.now; poles = is.poles.now }
