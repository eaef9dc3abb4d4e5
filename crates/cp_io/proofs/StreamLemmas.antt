-- What copies from the front of one list of bytes to another do to both, and what a write adds to a text.
use Rattle.std.proofs.Common.{◌≡◌, ℕ, ◌+◌, ◌<◌, ◌≤◌, List, [], ◌++◌, Option, length, min, take, drop, sym, ap, ◌∙◌, arith, append_assoc}
use Rattle.std.specs.Io.KnownBytes.{Appends}
use Rattle.std.proofs.KnownBytes.{Appends-trans}
use Rattle.std.proofs.lemmas.List.{take-append-drop, drop-drop, length-drop}
use Rattle.std.proofs.Math.Seq.{take-append-add}
use Rattle.std.proofs.Math.ListN.{drop_of_length-le}

-- what stands behind the first n bytes begins with the part
pub take_behind : (n k : ℕ) (front rest part : List ℕ) → length front ≡ n → take k rest ≡ part
    → take (n + k) (front ++ rest) ≡ front ++ part
take_behind n k front rest part len same = rw (← len) (take-append-add front rest k ∙ ap (λ l. front ++ l) same)

-- what is left is what was given and what stands behind it
pub given_and_rest : (at n : ℕ) (items given : List ℕ) → given ≡ take n (drop at items)
    → drop at items ≡ given ++ drop (at + n) items
given_and_rest at n items given same = rw (same, ← drop-drop n at items) (sym (take-append-drop n (drop at items)))

-- where nothing is given though there is room, nothing is left
pub nothing_given : (at step room n : ℕ) (items : List ℕ) → n ≡ min (min step room) (length (drop at items)) → 0 < step
    → 0 < room → n ≡ 0 → drop (at + n) items ≡ []
nothing_given at step room n items count step_some room_some none =
    let len = length-drop at items in
    let short : length items ≤ at + n = omega arith in
    drop_of_length-le items short

-- a front of the text was appended, and then n bytes of the rest
pub front_more : (a b c : Option (List ℕ)) (text front rest after : List ℕ) (n : ℕ) → text ≡ front ++ rest
    → Appends a b front → after ≡ drop n rest → Appends b c (take n rest)
    → (more : List ℕ) × (text ≡ more ++ after) × Appends a c more
front_more a b c text front rest after n whole first behind second =
    let parts = whole ∙ ap (λ l. front ++ l) (sym (take-append-drop n rest))
    ∙ sym (append_assoc front (take n rest) (drop n rest)) in
    (front ++ take n rest, rw behind parts, Appends-trans a b c front (take n rest) first second)
