-- What permutations keep of numbers in lists.
pub use Rattle.cp_lists.proofs.PermutedLists.{Has-IsPermutation, Lacks-IsPermutation, Distinct-IsPermutation}
