-- Each vertex of a search tree gets a place between its low point and its parent.
use Rattle.std.proofs.Common.{◌≡◌, ◌≢◌, ℕ, suc, ◌+◌, ◌-◌, ◌<◌, ◌≤◌, ◌⊎◌, List, length, get_or, set, sym, ap, ◌∙◌, subst, inl, inr, ⊎_elim, arith}
use Rattle.std.specs.Prelude.{replicate}
use Rattle.std.proofs.lemmas.Bool.{cases_eq}
use Rattle.std.proofs.lemmas.List.{get_or-set_same, get_or-set_other, get_or-replicate, get_or_read, length-set, length-replicate}
use Rattle.cp_ears.specs.Placing.{IsTree, ArePlaces, ShareRoom, IsBefore, IsPlacing, StandAt, total}
use Rattle.cp_ears.proofs.Rooms.{room_enough, room_some, room_one, have_step, share_step, total_item}

-- vertex k gets a part of the room of its parent p: the front where its low point stands before p, else the back
pub record Puts (k p u : ℕ) (places room places' room' : List ℕ) : Type 0 where
  pub size : length places' ≡ length places
  pub room_is : room' ≡ set room p (get_or room p 0 - get_or room k 0)
  pub others : (x : ℕ) → x ≢ p → x ≢ k → get_or places' x 0 ≡ get_or places x 0
  pub side : ((get_or places u 0 < get_or places p 0) × (get_or places' k 0 ≡ get_or places p 0)
      × (get_or places' p 0 ≡ get_or places p 0 + get_or room k 0))
      ⊎ ((get_or places p 0 ≤ get_or places u 0)
      × (get_or places' k 0 ≡ get_or places p 0 + (get_or room p 0 - get_or room k 0))
      × (get_or places' p 0 ≡ get_or places p 0))

-- where vertex k is put beside its parent, one vertex more has its place
pub put_step : (n k : ℕ) (up low places room places' room' : List ℕ) → IsTree n up low
    → IsPlacing n up low places room k → 0 < k → k < n
    → Puts k (get_or up k 0) (get_or low k 0) places room places' room' → IsPlacing n up low places' room' (k + 1)
put_step n k up low places room places' room' t s some lt h = record {
  size = h.size ∙ s.size;
  have = have_step n k up room room' s.have lt lower h.room_is;
  within = λ x ltx. ⊎_elim (λ e.
      omega (
        arith,
        ap (λ (z : ℕ). get_or places' z 0) e,
        ap
            (λ (z : ℕ). get_or room' z 0) e,
        inside.1,
        s.within p lower,
      ))
      (λ ne. omega (arith, nest x (omega arith), s.within x (omega arith))) (cases_eq x k);
  apart = λ x y ltx lty ne. ⊎_elim
      (λ e. subst (λ (z : ℕ). IsBefore places' room' z y ⊎ IsBefore places' room' y z) (sym e)
      (⊎_elim (λ b. inr b) (λ b. inl b) (new_apart y (let nk : y ≢ k = λ f. ne (e ∙ sym f) in omega arith))))
      (λ nx. ⊎_elim
      (λ e. subst (λ (z : ℕ). IsBefore places' room' x z ⊎ IsBefore places' room' z x) (sym e)
      (new_apart x (omega arith)))
      (λ ny. ⊎_elim (λ b. inl (kept x y (omega arith) (omega arith) b))
      (λ b. inr (kept y x (omega arith) (omega arith) b)) (s.apart x y (omega arith) (omega arith) ne))
      (cases_eq y k))
      (cases_eq x k);
  between = λ x late ltx. ⊎_elim
      (λ e. subst (λ (z : ℕ). (IsBefore places' room' (get_or low z 0) z × IsBefore places' room' z
      (get_or up z 0)) ⊎ (IsBefore places' room' (get_or up z 0) z × IsBefore places' room' z (get_or low z 0)))
      (sym e) (new_between (omega arith)))
      (λ ne. let ltk : x < k = omega arith in
      let ltu : get_or up x 0 < k = omega (arith, t.up_lower x (omega arith) (omega arith)) in
      let ltl : get_or low x 0 < k = omega (arith, t.low_lower x late (omega arith), ltu) in
      ⊎_elim
      (λ b. inl (kept (get_or low x 0) x ltl ltk b.0, kept x (get_or up x 0) ltk ltu b.1))
      (λ b. inr (kept (get_or up x 0) x ltu ltk b.0, kept x (get_or low x 0) ltk ltl b.1))
      (s.between x late ltk))
      (cases_eq x k);
  first = first_kept;
  alone = λ e. absurd (omega arith);
  last = λ late. last_kept late;
}
  where
    -- the parent of vertex k
    p : ℕ
    p = get_or up k 0

    -- the low point of vertex k
    u : ℕ
    u = get_or low k 0

    -- the parent has a lower number
    lower : get_or up k 0 < k
    lower = t.up_lower k some lt

    -- the parent has room for vertex k and for itself
    enough : 1 + get_or room k 0 ≤ get_or room p 0
    enough = room_enough n k up room s.have lt lower

    -- the parent keeps the room that vertex k does not take
    room_at : get_or room' p 0 ≡ get_or room p 0 - get_or room k 0
    room_at = ap (λ (xs : List ℕ). get_or xs p 0) h.room_is
        ∙ get_or-set_same room p (get_or room p 0 - get_or room k 0) 0 (omega (arith, lower, lt, s.have.size))

    -- all others have as much room as before
    room_other : (x : ℕ) → x ≢ p → get_or room' x 0 ≡ get_or room x 0
    room_other x ne = ap (λ (xs : List ℕ). get_or xs x 0) h.room_is
        ∙ get_or-set_other room p x (get_or room p 0 - get_or room k 0) 0 ne

    -- vertex k has as much room as before
    room_new : get_or room' k 0 ≡ get_or room k 0
    room_new = room_other k (λ e. omega (arith, lower))

    -- the new room of the parent lies within its old one
    nest_p : (get_or places p 0 ≤ get_or places' p 0)
        × (get_or places' p 0 + get_or room' p 0 ≤ get_or places p 0 + get_or room p 0)
    nest_p = ⊎_elim (λ f. (omega (arith, f.2), omega (arith, f.2, room_at, enough)))
        (λ b. (omega (arith, b.2), omega (arith, b.2, room_at, enough))) h.side

    -- the new room of each earlier vertex lies within its old one
    nest : (x : ℕ) → x < k → (get_or places x 0 ≤ get_or places' x 0)
        × (get_or places' x 0 + get_or room' x 0 ≤ get_or places x 0 + get_or room x 0)
    nest x ltx = ⊎_elim
        (λ e. subst (λ (z : ℕ). (get_or places z 0 ≤ get_or places' z 0) × (get_or places' z 0 + get_or room' z
        0 ≤ get_or places z 0 + get_or room z 0)) (sym e) nest_p)
        (λ ne. let same : get_or places' x 0 ≡ get_or places x 0 = h.others x ne (λ f. omega arith) in
        (omega (arith, same), omega (arith, same, room_other x ne)))
        (cases_eq x p)

    -- the room of vertex k lies within the old one of its parent
    inside : (get_or places p 0 ≤ get_or places' k 0)
        × (get_or places' k 0 + get_or room' k 0 ≤ get_or places p 0 + get_or room p 0)
    inside = ⊎_elim (λ f. (omega (arith, f.1), omega (arith, f.1, room_new, enough)))
        (λ b. (omega (arith, b.1), omega (arith, b.1, room_new, enough))) h.side

    -- the rooms of vertex k and of its parent are apart
    beside : IsBefore places' room' p k ⊎ IsBefore places' room' k p
    beside = ⊎_elim (λ f. inr (omega (arith, f.1, f.2, room_new))) (λ b. inl (omega (arith, b.1, b.2, room_at))) h.side

    -- of two earlier vertices the one that stood first still stands first
    kept : (x y : ℕ) → x < k → y < k → IsBefore places room x y → IsBefore places' room' x y
    kept x y ltx lty b = omega (arith, nest x ltx, nest y lty, b)

    -- the room of vertex k is apart from that of each earlier vertex
    new_apart : (y : ℕ) → y < k → IsBefore places' room' y k ⊎ IsBefore places' room' k y
    new_apart y lty = ⊎_elim
        (λ e. subst (λ (z : ℕ). IsBefore places' room' z k ⊎ IsBefore places' room' k z) (sym e) beside)
        (λ ne. ⊎_elim (λ b. inl (omega (arith, b, nest y lty, inside)))
        (λ b. inr (omega (arith, b, nest y lty, inside))) (s.apart y p lty lower ne))
        (cases_eq y p)

    -- vertex k stands between its low point and its parent
    new_between : 1 < k → (IsBefore places' room' u k × IsBefore places' room' k p)
        ⊎ (IsBefore places' room' p k × IsBefore places' room' k u)
    new_between late =
        let less : u < p = t.low_lower k late lt in
        let ltu : u < k = omega (arith, less, lower) in
        let one_u : 1 ≤ get_or room u 0 = room_some n k u up room s.have (omega arith) (omega arith) in
        let one_p : 1 ≤ get_or room p 0 = omega (arith, enough) in
        ⊎_elim
        (λ b. ⊎_elim
        (λ f. inl (omega (arith, b, nest u ltu, f.1), omega (arith, f.1, f.2, room_new)))
        (λ g. absurd (omega (arith, b, g.0, one_u)))
        h.side)
        (λ b. ⊎_elim
        (λ f. absurd (omega (arith, b, f.0, one_p)))
        (λ g. inr (omega (arith, g.1, g.2, room_at), omega (arith, b, nest u ltu, inside)))
        h.side)
        (s.apart u p ltu lower (λ e. omega (arith, less)))

    -- the parent and the low point of the second vertex are the first
    early : (k ≡ 1) → (p ≡ 0) × (u ≡ 0)
    early e = (omega (arith, lower), ap (λ (z : ℕ). get_or low z 0) e ∙ t.second_low)

    -- the second vertex is put at the back of the room of the first
    front : k ≡ 1 → (get_or places' p 0 ≡ get_or places p 0)
        × (get_or places' k 0 ≡ get_or places p 0 + (get_or room p 0 - get_or room k 0))
    front e = ⊎_elim (λ f. absurd
        (omega (
          arith,
          f.0,
          ap (λ (z : ℕ). get_or places z 0) (early e).0,
          ap (λ (z : ℕ). get_or places z 0)
              (early e).1,
        ))) (λ g. (g.2, g.1)) h.side

    -- the first vertex keeps place 0
    first_kept : get_or places' 0 0 ≡ 0
    first_kept = ⊎_elim
        (λ e. let z : p ≡ 0 = (early e).0 in ap (λ (x : ℕ). get_or places' x 0) (sym z) ∙ (front e).0
        ∙ ap (λ (x : ℕ). get_or places x 0) z ∙ s.first)
        (λ ne. h.others 0 (λ e. omega (arith, t.low_lower k (omega arith) lt)) (λ e. omega arith) ∙ s.first)
        (cases_eq k 1)

    -- the room of the second vertex still ends with all the room
    last_kept : 1 < k + 1 → get_or places' 1 0 + get_or room' 1 0 ≡ n
    last_kept late = ⊎_elim
        (λ e. let z : p ≡ 0 = (early e).0 in
        omega (
          arith,
          ap (λ (x : ℕ). get_or places' x 0) (sym e),
          ap (λ (x : ℕ). get_or room' x 0) (sym e),
          (front e).1,
          room_new,
          enough,
          ap (λ (x : ℕ). get_or places x 0) z,
          ap
              (λ (x : ℕ). get_or room x 0) z,
          s.first,
          s.alone e,
        ))
        (λ ne. ⊎_elim (λ e. beside_last (omega arith) e)
        (λ np. omega (
          arith,
          h.others 1 (λ f. np (sym f)) (λ f. ne (sym f)),
          room_other 1 (λ f. np (sym f)),
          s.last
              (omega arith),
        )) (cases_eq p 1))
        (cases_eq k 1)
      where
        -- also where vertex k is a child of the second vertex
        beside_last : 1 < k → p ≡ 1 → get_or places' 1 0 + get_or room' 1 0 ≡ n
        beside_last l e =
            let z : u ≡ 0 = omega (arith, t.low_lower k l lt, e) in
            let one_u : 1 ≤ get_or room 1 0 = room_some n k 1 up room s.have (omega arith) (omega arith) in
            let one_0 : 1 ≤ get_or room 0 0 = room_some n k 0 up room s.have (omega arith) (omega arith) in
            let before : get_or places 0 0 < get_or places 1 0 =
            ⊎_elim (λ b. omega (arith, b, one_0)) (λ b. absurd (omega (arith, b, one_u, s.first)))
            (s.apart 0 1 (omega arith) l (λ f. omega arith)) in
            ⊎_elim
            (λ f. omega (
              arith,
              f.2,
              room_at,
              enough,
              ap (λ (x : ℕ). get_or places' x 0) e,
              ap
                  (λ (x : ℕ). get_or room' x 0) e,
              ap (λ (x : ℕ). get_or places x 0) e,
              ap
                  (λ (x : ℕ). get_or room x 0) e,
              s.last l,
            ))
            (λ g. absurd (omega (
              arith,
              g.0,
              before,
              ap (λ (x : ℕ). get_or places x 0) e,
              ap
                  (λ (x : ℕ). get_or places x 0) z,
            )))
            h.side

-- the first vertex alone has all the room
pub placing_start : (n : ℕ) (up low places room : List ℕ) → 1 < n → ShareRoom n up room 1 → places ≡ replicate n 0
    → IsPlacing n up low places room 1
placing_start n up low places room two s is = record {
  size = ap length is ∙ length-replicate n 0;
  have = s.have;
  within = λ x lt. omega (
    arith,
    ap (λ (z : ℕ). get_or places z 0) (let e : x ≡ 0 = omega arith in e),
    ap
        (λ (z : ℕ). get_or room z 0) (let e : x ≡ 0 = omega arith in e),
    zero_first,
    whole,
  );
  apart = λ x y ltx lty ne. absurd (ne (omega arith));
  between = λ x late lt. absurd (omega arith);
  first = zero_first;
  alone = λ e. whole;
  last = λ late. absurd (omega arith);
}
  where
    -- the first vertex has place 0
    zero_first : get_or places 0 0 ≡ 0
    zero_first = ap (λ (xs : List ℕ). get_or xs 0 0) is ∙ get_or-replicate {A = ℕ} n 0 0 0 (omega arith)

    -- the first vertex has all the room
    whole : get_or room 0 0 ≡ n
    whole = omega (arith, s.whole)

-- where all vertices have their places, each stands between its low point and its parent
pub placing_end : (n : ℕ) (up low places room : List ℕ) → 1 < n → IsTree n up low → IsPlacing n up low places room n
    → ArePlaces n up low places
placing_end n up low places room two t s = record {
  size = s.size;
  within = λ x lt. omega (arith, s.within x lt, one x lt);
  apart = λ x y ltx lty e. ⊎_elim (λ same. same)
      (λ ne. absurd (⊎_elim (λ b. omega (arith, b, e, one x ltx)) (λ b. omega (arith, b, e, one y lty))
      (s.apart x y ltx lty ne))) (cases_eq x y);
  first = s.first;
  last = omega (arith, s.last two, one 1 two);
  between = λ x late lt.
      let ltu : get_or up x 0 < n = omega (arith, t.up_lower x (omega arith) lt) in
      let ltl : get_or low x 0 < n = omega (arith, t.low_lower x late lt, ltu) in
      ⊎_elim
      (λ b. inl (omega (arith, b.0, one (get_or low x 0) ltl), omega (arith, b.1, one x lt)))
      (λ b. inr (omega (arith, b.0, one (get_or up x 0) ltu), omega (arith, b.1, one x lt)))
      (s.between x late lt);
}
  where
    -- each vertex has room for itself alone
    one : (x : ℕ) → x < n → get_or room x 0 ≡ 1
    one x lt = room_one n x up room s.have lt

-- a vertex gives its room to its parent too, as a program reads it
pub share_read : (n k a b : ℕ) (up room : List ℕ) → ShareRoom n up room (k + 1) → k < n → get_or up k 0 < k
    → a ≡ get_or room (get_or up k 0) a → b ≡ get_or room k b
    → ShareRoom n up (set room (get_or up k 0) (a + b)) k × (a + b ≤ n)
share_read n k a b up room s lt lower a_is b_is =
    let at_a : a ≡ get_or room (get_or up k 0) 0 =
    get_or_read room (get_or up k 0) a (omega (arith, lower, lt, s.have.size)) a_is 0 in
    let at_b : b ≡ get_or room k 0 = get_or_read room k b (omega (arith, lt, s.have.size)) b_is 0 in
    let next : k + 1 ≡ suc k = omega arith in (
      share_step n k up room (set room (get_or up k 0) (a + b)) s lt lower
          (ap (λ (z : ℕ). set room (get_or up k 0) z) (omega (arith, at_a, at_b))),
      omega (arith, at_a, at_b, total_item room k (get_or up k 0) lower, s.whole, ap (total room) next),
    )

-- a parent has more room than its child
pub read_enough : (n k a b : ℕ) (up low places room : List ℕ) → IsTree n up low → IsPlacing n up low places room k
    → 0 < k → k < n → a ≡ get_or room (get_or up k 0) a → b ≡ get_or room k b → b ≤ a
read_enough n k a b up low places room t s some lt a_is b_is =
    let lower : get_or up k 0 < k = t.up_lower k some lt in
    omega (
      arith,
      room_enough n k up room s.have lt lower,
      get_or_read room (get_or up k 0) a
          (omega (arith, lower, lt, s.have.size)) a_is 0,
      get_or_read room k b (omega (arith, lt, s.have.size)) b_is 0,
    )

-- the parent stays within the places where it moves behind its child
pub front_fits : (n k b q r : ℕ) (up low places room : List ℕ) → IsTree n up low → IsPlacing n up low places room k
    → 0 < k → k < n → b ≡ get_or room k b → r ≡ get_or (set places k q) (get_or up k 0) r → r + b ≤ n
front_fits n k b q r up low places room t s some lt b_is r_is =
    let lower : get_or up k 0 < k = t.up_lower k some lt in
    omega (
      arith,
      s.within (get_or up k 0) lower,
      room_enough n k up room s.have lt lower,
      get_or_read room k b (omega (arith, lt, s.have.size)) b_is 0,
      get_or_read (set places k q) (get_or up k 0) r (omega (arith, length-set places k q, lower, lt, s.size)) r_is 0,
      get_or-set_other places k (get_or up k 0) q 0 (λ e. omega (arith, lower)),
    )

-- the child stays within the places where it stands behind its parent
pub back_fits : (n k a b q r : ℕ) (up low places room : List ℕ) → IsTree n up low → IsPlacing n up low places room k
    → 0 < k → k < n → a ≡ get_or room (get_or up k 0) a → q ≡ get_or places (get_or up k 0) q
    → r ≡ get_or (set room (get_or up k 0) (a - b)) (get_or up k 0) r → q + r ≤ n
back_fits n k a b q r up low places room t s some lt a_is q_is r_is =
    let lower : get_or up k 0 < k = t.up_lower k some lt in
    let inside : get_or up k 0 < length room = omega (arith, lower, lt, s.have.size) in
    omega (
      arith,
      s.within (get_or up k 0) lower,
      get_or_read room (get_or up k 0) a inside a_is 0,
      get_or_read places (get_or up k 0) q (omega (arith, lower, lt, s.size)) q_is 0,
      get_or_read (set room (get_or up k 0) (a - b)) (get_or up k 0) r
          (omega (arith, length-set room (get_or up k 0) (a - b), inside)) r_is 0,
      get_or-set_same room (get_or up k 0) (a - b) 0 inside,
    )

-- a vertex is put in front of its parent, as a program reads it
pub put_front : (n k a b x y q r : ℕ) (up low places room : List ℕ) → IsTree n up low → IsPlacing n up low places room k
    → 0 < k → k < n → a ≡ get_or room (get_or up k 0) a → b ≡ get_or room k b → x ≡ get_or places (get_or low k 0) x
    → y ≡ get_or places (get_or up k 0) y → x < y
    → q ≡ get_or places (get_or up k 0) q → r ≡ get_or (set places k q) (get_or up k 0) r
    → IsPlacing n up low (set (set places k q) (get_or up k 0) (r + b)) (set room (get_or up k 0) (a - b)) (k + 1)
put_front n k a b x y q r up low places room t s some lt a_is b_is x_is y_is less q_is r_is =
    put_step n k up low places room (set (set places k q) p (r + b)) (set room p (a - b)) t s some lt (record {
      size = length-set (set places k q) p (r + b) ∙ length-set places k q;
      room_is = ap (λ (z : ℕ). set room p z) (omega (arith, at_a, at_b));
      others = λ z np nk. get_or-set_other (set places k q) p z (r + b) 0 np ∙ get_or-set_other places k z q 0 nk;
      side = inl (
        omega (arith, less, at_x, at_y),
        get_or-set_other (set places k q) p k (r + b) 0 (λ e. omega (arith, lower))
            ∙ get_or-set_same places k q 0 (omega (arith, lt, s.size)) ∙ at_q,
        get_or-set_same (set places k q) p (r + b) 0 (omega (arith, size_q, ltp)) ∙ omega (arith, at_r, at_b),
      );
    })
  where
    -- the parent of vertex k
    p : ℕ
    p = get_or up k 0

    -- the parent has a lower number
    lower : get_or up k 0 < k
    lower = t.up_lower k some lt

    -- the parent has a place in the table
    ltp : get_or up k 0 < length places
    ltp = omega (arith, lower, lt, s.size)

    -- the low point has a place in the table
    ltu : get_or low k 0 < length places
    ltu = ⊎_elim (λ e. omega (arith, ap (λ (z : ℕ). get_or low z 0) e, t.second_low, lt, s.size))
        (λ ne. omega (arith, t.low_lower k (omega arith) lt, ltp)) (cases_eq k 1)

    -- the table stays as long as it was
    size_q : length (set places k q) ≡ length places
    size_q = length-set places k q

    -- a is the room of the parent
    at_a : a ≡ get_or room p 0
    at_a = get_or_read room p a (omega (arith, lower, lt, s.have.size)) a_is 0

    -- b is the room of vertex k
    at_b : b ≡ get_or room k 0
    at_b = get_or_read room k b (omega (arith, lt, s.have.size)) b_is 0

    -- x is the place of the low point
    at_x : x ≡ get_or places (get_or low k 0) 0
    at_x = get_or_read places (get_or low k 0) x ltu x_is 0

    -- y is the place of the parent
    at_y : y ≡ get_or places p 0
    at_y = get_or_read places p y ltp y_is 0

    -- q is the place of the parent
    at_q : q ≡ get_or places p 0
    at_q = get_or_read places p q ltp q_is 0

    -- r is the place of the parent too, since vertex k is another one
    at_r : r ≡ get_or places p 0
    at_r = get_or_read (set places k q) p r (omega (arith, size_q, ltp)) r_is 0
        ∙ get_or-set_other places k p q 0 (λ e. omega (arith, lower))

-- a vertex is put behind its parent, as a program reads it
pub put_back : (n k a b x y q r : ℕ) (up low places room : List ℕ) → IsTree n up low → IsPlacing n up low places room k
    → 0 < k → k < n → a ≡ get_or room (get_or up k 0) a → b ≡ get_or room k b → x ≡ get_or places (get_or low k 0) x
    → y ≡ get_or places (get_or up k 0) y → y ≤ x
    → q ≡ get_or places (get_or up k 0) q → r ≡ get_or (set room (get_or up k 0) (a - b)) (get_or up k 0) r
    → IsPlacing n up low (set places k (q + r)) (set room (get_or up k 0) (a - b)) (k + 1)
put_back n k a b x y q r up low places room t s some lt a_is b_is x_is y_is le q_is r_is =
    put_step n k up low places room (set places k (q + r)) (set room p (a - b)) t s some lt (record {
      size = length-set places k (q + r);
      room_is = ap (λ (z : ℕ). set room p z) (omega (arith, at_a, at_b));
      others = λ z np nk. get_or-set_other places k z (q + r) 0 nk;
      side = inr (
        omega (arith, le, at_x, at_y),
        get_or-set_same places k (q + r) 0 (omega (arith, lt, s.size)) ∙ omega (arith, at_q, at_r, at_a, at_b),
        get_or-set_other places k p (q + r) 0 (λ e. omega (arith, lower)),
      );
    })
  where
    -- the parent of vertex k
    p : ℕ
    p = get_or up k 0

    -- the parent has a lower number
    lower : get_or up k 0 < k
    lower = t.up_lower k some lt

    -- the parent has a place in the table
    ltp : get_or up k 0 < length places
    ltp = omega (arith, lower, lt, s.size)

    -- the low point has a place in the table
    ltu : get_or low k 0 < length places
    ltu = ⊎_elim (λ e. omega (arith, ap (λ (z : ℕ). get_or low z 0) e, t.second_low, lt, s.size))
        (λ ne. omega (arith, t.low_lower k (omega arith) lt, ltp)) (cases_eq k 1)

    -- a is the room of the parent
    at_a : a ≡ get_or room p 0
    at_a = get_or_read room p a (omega (arith, lower, lt, s.have.size)) a_is 0

    -- b is the room of vertex k
    at_b : b ≡ get_or room k 0
    at_b = get_or_read room k b (omega (arith, lt, s.have.size)) b_is 0

    -- x is the place of the low point
    at_x : x ≡ get_or places (get_or low k 0) 0
    at_x = get_or_read places (get_or low k 0) x ltu x_is 0

    -- y is the place of the parent
    at_y : y ≡ get_or places p 0
    at_y = get_or_read places p y ltp y_is 0

    -- q is the place of the parent
    at_q : q ≡ get_or places p 0
    at_q = get_or_read places p q ltp q_is 0

    -- r is the room that the parent keeps
    at_r : r ≡ a - b
    at_r = get_or_read (set room p (a - b)) p r
        (omega (arith, length-set room p (a - b), lower, lt, s.have.size)) r_is 0
        ∙ get_or-set_same room p (a - b) 0 (omega (arith, lower, lt, s.have.size))

-- one item more stands at its place
pub stand_step : (items places order : List ℕ) (i : ℕ) → StandAt items places order i → i < length items
    → ((j : ℕ) → j < length items → get_or places j 0 < length items)
    → ((j k : ℕ) → j < length items → k < length items → get_or places j 0 ≡ get_or places k 0 → j ≡ k)
    → StandAt items places (set order (get_or places i 0) (get_or items i 0)) (i + 1)
stand_step items places order i s lt within apart = record {
  size = length-set order (get_or places i 0) (get_or items i 0) ∙ s.size;
  each = λ j ltj. ⊎_elim
      (λ e. ap (λ (z : ℕ). get_or (set order (get_or places i 0) (get_or items i 0)) (get_or places z 0) 0) e
      ∙ get_or-set_same order (get_or places i 0) (get_or items i 0) 0 (omega (arith, within i lt, s.size))
      ∙ ap (λ (z : ℕ). get_or items z 0) (sym e))
      (λ ne. get_or-set_other order (get_or places i 0) (get_or places j 0) (get_or items i 0) 0
      (λ e. ne (apart j i (omega (arith, ltj, lt)) lt e)) ∙ s.each j (omega arith))
      (cases_eq j i);
}
