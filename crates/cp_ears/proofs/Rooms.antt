-- How much room the vertices of a search tree have.
use Rattle.std.proofs.Common.{◌≡◌, ◌≢◌, ℕ, zero, suc, ◌+◌, ◌-◌, ◌<◌, ◌≤◌, List, length, get_or, set, sym, refl, ap, ◌∙◌, ⊎_elim, arith}
use Rattle.std.specs.Prelude.{replicate}
use Rattle.std.proofs.lemmas.Bool.{cases_eq, eq-eqb, ne_eqb}
use Rattle.std.proofs.lemmas.List.{get_or-set_same, get_or-set_other, get_or-replicate, length-set, length-replicate}
use Rattle.cp_ears.specs.Placing.{children_from, total, HaveRoom, ShareRoom}

-- where vertex k is a child of p, its room comes to that of the later children
children_at : (up room : List ℕ) (p k more : ℕ) → get_or up k 0 ≡ p
    → children_from up room p k (suc more) ≡ get_or room k 0 + children_from up room p (suc k) more
children_at up room p k more e = rw (eq-eqb (get_or up k 0) p e) refl

-- where vertex k is no child of p, only the later children have room
children_other : (up room : List ℕ) (p k more : ℕ) → get_or up k 0 ≢ p
    → children_from up room p k (suc more) ≡ children_from up room p (suc k) more
children_other up room p k more ne = rw (ne_eqb (get_or up k 0) p ne) (omega arith)

-- the room of the children from k on does not turn on that of vertices before k
children_same : (up room room' : List ℕ) (p k more : ℕ) → ((j : ℕ) → k ≤ j → get_or room' j 0 ≡ get_or room j 0)
    → children_from up room' p k more ≡ children_from up room p k more
children_same up room room' p k zero same = refl
children_same up room room' p k (suc more) same =
    let rest : children_from up room' p (suc k) more ≡ children_from up room p (suc k) more =
    children_same up room room' p (suc k) more (λ j le. same j (omega arith)) in
    ⊎_elim
    (λ e. children_at up room' p k more e ∙ omega (arith, same k (omega arith), rest)
    ∙ sym (children_at up room p k more e))
    (λ ne. children_other up room' p k more ne ∙ rest ∙ sym (children_other up room p k more ne))
    (cases_eq (get_or up k 0) p)

-- one of the first k vertices has no more room than they all have
pub total_item : (room : List ℕ) (k x : ℕ) → x < k → get_or room x 0 ≤ total room k
total_item room zero x lt = absurd (omega arith)
total_item room (suc k) x lt =
    ⊎_elim (λ e. omega (arith, ap (λ (z : ℕ). get_or room z 0) e))
    (λ ne. omega (arith, total_item room k x (omega arith))) (cases_eq x k)

-- the first k vertices have as much room where only that of later vertices changes
total_same : (room room' : List ℕ) (k : ℕ) → ((x : ℕ) → x < k → get_or room' x 0 ≡ get_or room x 0)
    → total room' k ≡ total room k
total_same room room' zero same = refl
total_same room room' (suc k) same =
    omega (arith, same k (omega arith), total_same room room' k (λ x lt. same x (omega arith)))

-- where one of the first k vertices gets more room, they all have so much more
total_more : (room room' : List ℕ) (k p more : ℕ) → p < k → get_or room' p 0 ≡ get_or room p 0 + more
    → ((x : ℕ) → x ≢ p → get_or room' x 0 ≡ get_or room x 0) → total room' k ≡ total room k + more
total_more room room' zero p more lt at other = absurd (omega arith)
total_more room room' (suc k) p more lt at other =
    ⊎_elim
    (λ e. omega (
      arith,
      ap (λ (z : ℕ). get_or room' z 0) e,
      ap
          (λ (z : ℕ). get_or room z 0) e,
      at,
      total_same room room' k (λ x ltx. other x (λ f. omega arith)),
    ))
    (λ ne. omega (arith, other k (λ f. ne (sym f)), total_more room room' k p more (omega arith) at other))
    (cases_eq p k)

-- where each vertex has room for one, the first k vertices have room for k
total_ones : (room : List ℕ) (n k : ℕ) → room ≡ replicate n 1 → k ≤ n → total room k ≡ k
total_ones room n zero is le = refl
total_ones room n (suc k) is le =
    omega (
      arith,
      ap (λ (xs : List ℕ). get_or xs k 0) is,
      get_or-replicate {A = ℕ} n k 1 0
          (omega arith),
      total_ones room n k is (omega arith),
    )

-- where each vertex has room for one, they share all the room
pub share_start : (n : ℕ) (up room : List ℕ) → room ≡ replicate n 1 → ShareRoom n up room n
share_start n up room is = record {
  have = record {
    size = ap length is ∙ length-replicate n 1;
    each = λ p more lt e. let none : more ≡ 0 = omega arith in
        ap (λ (xs : List ℕ). get_or xs p 0) is ∙ get_or-replicate {A = ℕ} n p 1 0 lt
        ∙ ap (λ (z : ℕ). 1 + children_from up room p n z) (sym none);
  };
  whole = total_ones room n n is (omega arith);
}

-- where vertex k gives its room to its parent too, the vertices before k share all the room
pub share_step : (n k : ℕ) (up room room' : List ℕ) → ShareRoom n up room (k + 1) → k < n → get_or up k 0 < k
    → room' ≡ set room (get_or up k 0) (get_or room (get_or up k 0) 0 + get_or room k 0) → ShareRoom n up room' k
share_step n k up room room' s lt lower is = record {
  have = record {
    size = ap length is ∙ length-set room p (get_or room p 0 + get_or room k 0) ∙ s.have.size;
    each =
        λ q more ltq e. each q more ltq e;
  };
  whole = omega (arith, total_more room room' k p (get_or room k 0) lower at other, s.whole, ap (total room) next);
}
  where
    -- the parent of vertex k
    p : ℕ
    p = get_or up k 0

    -- two forms of one number
    next : k + 1 ≡ suc k
    next = omega arith

    -- the parent gets the room of vertex k beside its own
    at : get_or room' p 0 ≡ get_or room p 0 + get_or room k 0
    at = ap (λ (xs : List ℕ). get_or xs p 0) is
        ∙ get_or-set_same room p (get_or room p 0 + get_or room k 0) 0 (omega (arith, lower, lt, s.have.size))

    -- all others have as much room as before
    other : (x : ℕ) → x ≢ p → get_or room' x 0 ≡ get_or room x 0
    other x ne = ap (λ (xs : List ℕ). get_or xs x 0) is
        ∙ get_or-set_other room p x (get_or room p 0 + get_or room k 0) 0 ne

    -- what later children have is as before
    rest : (q more : ℕ) → children_from up room' q (suc k) more ≡ children_from up room q (suc k) more
    rest q more = children_same up room room' q (suc k) more (λ j le. other j (λ e. omega (arith, lower)))

    -- each vertex has room for itself and for its children from k on
    each : (q more : ℕ) → q < n → k + more ≡ n → get_or room' q 0 ≡ 1 + children_from up room' q k more
    each q zero ltq e = absurd (omega arith)
    each q (suc more) ltq e =
        let old : get_or room q 0 ≡ 1 + children_from up room q (suc k) more = s.have.each q more ltq (omega arith)
        ∙ ap (λ (z : ℕ). 1 + children_from up room q z more) next in
        ⊎_elim
        (λ f. omega (
          arith,
          ap (λ (z : ℕ). get_or room' z 0) (sym f),
          at,
          ap
              (λ (z : ℕ). get_or room z 0) f,
          old,
          children_at up room' q k more f,
          rest q more,
          other k
              (λ g. omega (arith, lower)),
        ))
        (λ ne. omega (arith, other q (λ g. ne (sym g)), old, children_other up room' q k more ne, rest q more))
        (cases_eq p q)

-- the parent of vertex k has more room than vertex k
pub room_enough : (n k : ℕ) (up room : List ℕ) → HaveRoom n up room k → k < n → get_or up k 0 < k
    → 1 + get_or room k 0 ≤ get_or room (get_or up k 0) 0
room_enough n k up room h lt lower =
    let more : ℕ = n - (k + 1) in
    omega (
      arith,
      h.each (get_or up k 0) (suc more) (omega (arith, lower, lt)) (omega (arith, lt)),
      children_at up room
          (get_or up k 0) k more refl,
    )

-- each vertex has room for one at least
pub room_some : (n k x : ℕ) (up room : List ℕ) → HaveRoom n up room k → k ≤ n → x < n → 1 ≤ get_or room x 0
room_some n k x up room h le lt = omega (arith, h.each x (n - k) lt (omega arith))

-- where all have their places each has room for one
pub room_one : (n x : ℕ) (up room : List ℕ) → HaveRoom n up room n → x < n → get_or room x 0 ≡ 1
room_one n x up room h lt = h.each x 0 lt (omega arith)

-- where the parent of vertex k gives away the room of vertex k, it keeps room for its later children
pub have_step : (n k : ℕ) (up room room' : List ℕ) → HaveRoom n up room k → k < n → get_or up k 0 < k
    → room' ≡ set room (get_or up k 0) (get_or room (get_or up k 0) 0 - get_or room k 0) → HaveRoom n up room' (k + 1)
have_step n k up room room' h lt lower is =
    record {
      size = ap length is ∙ length-set room p (get_or room p 0 - get_or room k 0) ∙ h.size;
      each =
          λ q more ltq e. each q more ltq e;
    }
  where
    -- the parent of vertex k
    p : ℕ
    p = get_or up k 0

    -- the parent loses the room of vertex k
    at : get_or room' p 0 ≡ get_or room p 0 - get_or room k 0
    at = ap (λ (xs : List ℕ). get_or xs p 0) is
        ∙ get_or-set_same room p (get_or room p 0 - get_or room k 0) 0 (omega (arith, lower, lt, h.size))

    -- all others have as much room as before
    other : (x : ℕ) → x ≢ p → get_or room' x 0 ≡ get_or room x 0
    other x ne = ap (λ (xs : List ℕ). get_or xs x 0) is
        ∙ get_or-set_other room p x (get_or room p 0 - get_or room k 0) 0 ne

    -- what later children have is as before
    rest : (q more : ℕ) → children_from up room' q (suc k) more ≡ children_from up room q (suc k) more
    rest q more = children_same up room room' q (suc k) more (λ j le. other j (λ e. omega (arith, lower)))

    -- each vertex has room for itself and for its children behind k
    each : (q more : ℕ) → q < n → k + 1 + more ≡ n → get_or room' q 0 ≡ 1 + children_from up room' q (k + 1) more
    each q more ltq e =
        let next : suc k ≡ k + 1 = omega arith in
        let old : get_or room q 0 ≡ 1 + children_from up room q k (suc more) = h.each q (suc more) ltq (omega arith) in
        let new : children_from up room' q (suc k) more ≡ children_from up room' q (k + 1) more =
        ap (λ (z : ℕ). children_from up room' q z more) next in
        ⊎_elim
        (λ f. omega (
          arith,
          ap (λ (z : ℕ). get_or room' z 0) (sym f),
          at,
          ap
              (λ (z : ℕ). get_or room z 0) f,
          old,
          children_at up room q k more f,
          rest q more,
          new,
        ))
        (λ ne. omega (arith, other q (λ g. ne (sym g)), old, children_other up room q k more ne, rest q more, new))
        (cases_eq p q)
