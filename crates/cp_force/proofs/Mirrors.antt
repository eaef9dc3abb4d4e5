-- Readings from right to left, and licences turned.
use Rattle.std.proofs.Common.{◌≡◌, ℕ, Bool, true, false, not, ◌↔◌, List, reverse, refl, ap, ◌∙◌, subst, subst₂}
use Rattle.std.proofs.lemmas.List.{reverse-reverse}
use Rattle.cp_pq.specs.declared.node.Node.{Node}
use Rattle.cp_pq.specs.Readings.{Reads, ReadsAll}
use Rattle.cp_pq.specs.Words.{Licensed, turned}
use Rattle.cp_pq.proofs.ReadingLaws.{read_wider, read_all_wider}
use Rattle.cp_pq.specs.Promises.{in_direction}
use Rattle.cp_pq.proofs.Mirrors.{licence_turned, mirror, mirror_all, not_not, turned_licence, turned_turned}

-- the reverse is a reading exactly where the row is one by the turned licence
pub reverse_read : (may : ℕ → Bool → Bool) (n : Node) (xs : List ℕ) → Reads may n (reverse xs) ↔ Reads (turned may) n xs
reverse_read may n xs = (
  λ r. subst (Reads (turned may) n) (reverse-reverse xs) (mirror may n (reverse xs) r),
  λ r. read_wider (turned (turned may)) may (turned_turned may) n (reverse xs) (mirror (turned may) n xs r),
)

-- a row turned once more
turned_again : (way : Bool) (ks : List Node) → reverse (in_direction way ks) ≡ in_direction (not way) ks
turned_again true ks = reverse-reverse ks
turned_again false ks = refl

-- the same of a row of nodes, in the other direction
pub reverse_read_row : (may : ℕ → Bool → Bool) (way : Bool) (ks : List Node) (xs : List ℕ)
    → ReadsAll may (in_direction way ks) (reverse xs) ↔ ReadsAll (turned may) (in_direction (not way) ks) xs
reverse_read_row may way ks xs = (
  λ r. subst₂ (ReadsAll (turned may)) (turned_again way ks) (reverse-reverse xs)
      (mirror_all may (in_direction way ks) (reverse xs) r),
  λ r. read_all_wider (turned (turned may)) may (turned_turned may) (in_direction way ks) (reverse xs)
      (subst (λ z. ReadsAll (turned (turned may)) z (reverse xs))
      (turned_again (not way) ks ∙ ap (λ b. in_direction b ks) (not_not way))
      (mirror_all (turned may) (in_direction (not way) ks) xs r)),
)

-- ties by the turned licence are ties turned
pub reverse_licence : (may : ℕ → Bool → Bool) (ts : List (ℕ × Bool))
    → Licensed false (turned may) ts ↔ Licensed true may ts
reverse_licence may ts = (turned_licence false may ts, licence_turned false may ts)
