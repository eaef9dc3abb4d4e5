-- What is sorted and rid of repeated numbers rises, and has the same numbers.
use Rattle.std.proofs.Common.{ℕ, eqb, List, sym, subst}
use Rattle.std.specs.List.{dedup}
use Rattle.std.specs.List.Sorted.{IsPermutation, IsStrictlyIncreasing}
use Rattle.std.proofs.lemmas.List.Filters.{dedup_is}
use Rattle.std.proofs.lemmas.List.Kept.{Contains-dedup_nat, Contains-from_dedup}
use Rattle.std.proofs.lemmas.List.Sorted.{IsPermutation-sym}
use Rattle.std.proofs.lemmas.Map.Keys.{IsStrictlyIncreasing-dedup}
use Rattle.cp_lists.specs.CyclicLists.{Has}
use Rattle.cp_lists.proofs.DistinctLists.{Has-Contains}
use Rattle.cp_lists.proofs.PermutedLists.{Has-IsPermutation}
use Rattle.cp_local.proofs.searching.rising_items.Goals as goal

pub returns-clause-rise : goal.returns-clause-rise
returns-clause-rise c =
    let sorted = c.sort_unstable.new.self.items in
    subst IsStrictlyIncreasing (sym (dedup_is eqb sorted c.dedup.new.self.items c.dedup.ensures.filtered))
    (IsStrictlyIncreasing-dedup sorted c.sort_unstable.ensures.sorted)

pub returns-clause-same : goal.returns-clause-same
returns-clause-same c x =
    let sorted = c.sort_unstable.new.self.items in
    let is = dedup_is eqb sorted c.dedup.new.self.items c.dedup.ensures.filtered in
    let perm : IsPermutation c.args.list.now sorted =
    subst (λ (xs : List ℕ). IsPermutation xs sorted) c.in_ok-sorted.ensures.items
    c.sort_unstable.ensures.permutation in (
      λ h. Has-IsPermutation x sorted c.args.list.now (IsPermutation-sym c.args.list.now sorted perm)
          ((Has-Contains x sorted).1 (Contains-from_dedup eqb sorted x
          ((Has-Contains x (dedup eqb sorted)).0 (subst (Has x) is h)))),
      λ h. subst (Has x) (sym is) ((Has-Contains x (dedup eqb sorted)).1 (Contains-dedup_nat sorted x
          ((Has-Contains x sorted).0 (Has-IsPermutation x c.args.list.now sorted perm h)))),
    )
