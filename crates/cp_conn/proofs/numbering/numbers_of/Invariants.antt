-- The numbers below the next one have the numbers of their classes.
use Rattle.std.proofs.Common.{◌≡◌, ℕ, ◌<◌, length, get_or, eqb}
use Rattle.cp_lists.specs.Count.{count}
use Rattle.cp_conn.proofs.numbering.numbers_of.Given as goal

abbrev pub invariant-loop-x : goal.invariant-loop-x
invariant-loop-x l = record {
  size : length l.numbers.items ≡ l.x;
  classes : l.classes ≡ count l.x (λ y. eqb (get_or l.least y 0) y);
  counted : (y : ℕ) → y < l.x → get_or l.numbers.items y 0
      ≡ count (get_or l.least y 0) (λ z. eqb (get_or l.least z 0) z);
}
