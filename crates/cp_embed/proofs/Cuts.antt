-- A cyclic list is cut in at most one way: turned so that an item that passes stands first and one that fails last, it
-- is the cut.
use Rattle.std.proofs.Common.{◌≡◌, ℕ, zero, suc, ◌+◌, ◌-◌, ◌<◌, Bool, true, false, not, List, [], ◌∷◌, ◌++◌, length, slice_index, take, drop, sym, refl, ap, ap₂, ◌∙◌, subst, inl, ⊎_elim, arith, append-nil, append_assoc}
use Rattle.std.specs.List.{filter}
use Rattle.std.proofs.lemmas.Bool.{cases_Bool, false≢true}
use Rattle.std.proofs.lemmas.List.Elements.{filter-append}
use Rattle.cp_lists.specs.CyclicLists.{Has}
use Rattle.cp_lists.specs.Turns.{IsTurn}
use Rattle.cp_lists.proofs.DistinctLists.{Has-place, Has-append_left, Has-append_right}
use Rattle.cp_lists.proofs.FilteredLists.{filter-Has, filter_all}
use Rattle.cp_lists.proofs.TurnedLists.{cut_twice, parts_of_turn, turn-sym, turn-trans}
use Rattle.cp_embed.specs.Cuts.{IsCut, IsRise, HasNoRise}
use Rattle.cp_embed.proofs.Lists.{filter_none}

-- the last item of a list is one of each part behind which nothing stands
last_in : (ws us vs : List ℕ) (z : ℕ) → ws ++ z ∷ [] ≡ us ++ vs → (vs ≡ [] → ⊥) → Has z vs
last_in ws us vs z whole some = ⊎_elim
    (λ w. subst (Has z) (sym w.2) (Has-append_right z w.0 (z ∷ []) (inl refl)))
    (λ w. beyond w.0 w.2)
    (cut_twice ws (z ∷ []) us vs whole)
  where
    beyond : (es : List ℕ) → z ∷ [] ≡ es ++ vs → Has z vs
    beyond [] e = subst (Has z) e (inl refl)
    beyond (y ∷ es) e = absurd (some (tail_none es (ap (drop 1) e)))
      where
        tail_none : (xs : List ℕ) → [] ≡ xs ++ vs → vs ≡ []
        tail_none [] e = sym e
        tail_none (x ∷ xs) e = absurd cc

-- a list that begins with an item that passes and ends with one that fails, and that is a turn of a list of items that
-- pass and then others that fail, is that list
cut_turned : (p : ℕ → Bool) (w xs ws first second : List ℕ) (x z : ℕ) → w ≡ x ∷ xs → w ≡ ws ++ z ∷ []
    → p x ≡ true → p z ≡ false → IsTurn (first ++ second) w → ((k : ℕ) → Has k first → p k ≡ true)
    → ((k : ℕ) → Has k second → p k ≡ false) → w ≡ first ++ second
cut_turned p w xs ws first second x z begins ends px pz turn all none =
    let t = parts_of_turn (first ++ second) w turn in
    parts t.0 t.1 t.2 t.3
  where
    -- the turn moves bs behind as
    parts : (bs cs : List ℕ) → first ++ second ≡ bs ++ cs → w ≡ cs ++ bs → w ≡ first ++ second
    parts bs [] whole turned = turned ∙ sym (append-nil bs) ∙ sym whole
    parts [] (c ∷ cs) whole turned = turned ∙ append-nil (c ∷ cs) ∙ sym whole
    parts (b ∷ bs) (c ∷ cs) whole turned =
        let head : c ≡ x = sym (ap (λ us. slice_index us 0) (sym begins ∙ turned)) in
        let last : Has z (b ∷ bs) = last_in ws (c ∷ cs) (b ∷ bs) z (sym ends ∙ turned) (λ e. cc) in
        ⊎_elim
        (λ e. absurd (false≢true (sym pz ∙ all z
        (subst (Has z) (sym e.1) (Has-append_left z (b ∷ bs) e.0 last)))))
        (λ e. absurd (false≢true (sym (none x (subst (Has x) (sym e.2)
        (Has-append_right x e.0 (c ∷ cs) (inl head)))) ∙ px)))
        (cut_twice first second (b ∷ bs) (c ∷ cs) whole)

-- a list that is cut is its items that pass and then the others
pub cut_filtered : (p : ℕ → Bool) (w xs ws list first second : List ℕ) (x z : ℕ) → w ≡ x ∷ xs → w ≡ ws ++ z ∷ []
    → p x ≡ true → p z ≡ false → IsTurn list w → IsCut p list first second
    → filter p w ++ filter (λ k. not (p k)) w ≡ w
cut_filtered p w xs ws list first second x z begins ends px pz turn cut =
    let whole : w ≡ first ++ second = cut_turned p w xs ws first second x z begins ends px pz
    (turn-trans (first ++ second) list w (turn-sym list (first ++ second) cut.turn) turn)
    cut.first_passes cut.second_fails
    in
    ap₂ (λ us vs. us ++ vs)
    (ap (filter p) whole ∙ filter-append p first second
    ∙ ap₂ (λ us vs. us ++ vs) (filter_all p first cut.first_passes) (filter_none p second cut.second_fails)
    ∙ append-nil first)
    (ap (filter (λ k. not (p k))) whole ∙ filter-append (λ k. not (p k)) first second
    ∙ ap₂ (λ us vs. us ++ vs)
    (filter_none (λ k. not (p k)) first (λ k h. ap not (cut.first_passes k h)))
    (filter_all (λ k. not (p k)) second (λ k h. ap not (cut.second_fails k h))))
    ∙ sym whole

-- the items that pass and then the others are a cut where they are a turn of the list
pub filtered-IsCut : (p : ℕ → Bool) (w list : List ℕ) → IsTurn list w → filter p w ++ filter (λ k. not (p k)) w ≡ w
    → IsCut p list (filter p w) (filter (λ k. not (p k)) w)
filtered-IsCut p w list turn whole = record {
  turn = subst (IsTurn list) (sym whole) turn;
  first_passes = λ k h. (filter-Has p k w h).1;
  second_fails = λ k h. not_true (p k) ((filter-Has (λ j. not (p j)) k w h).1);
}
  where
    not_true : (b : Bool) → not b ≡ true → b ≡ false
    not_true true e = absurd cc
    not_true false e = refl

-- where no item that passes stands behind one that fails, the first passes where one does
no_rise-first : (p : ℕ → Bool) (list : List ℕ) (n j : ℕ) → HasNoRise p list n → j < n
    → p (slice_index list j) ≡ true → p (slice_index list 0) ≡ true
no_rise-first p list n zero none lt passes = passes
no_rise-first p list n (suc j) none lt passes =
    no_rise-first p list n j none (omega arith)
    (subst (λ i. p (slice_index list i) ≡ true) (let e : suc j - 1 ≡ j = omega arith in e)
    (none (suc j) (omega arith) lt passes))

-- and all pass where the one at the end does
no_rise-all : (p : ℕ → Bool) (list : List ℕ) (n m j : ℕ) → HasNoRise p list n → j + m < n
    → p (slice_index list (j + m)) ≡ true → p (slice_index list j) ≡ true
no_rise-all p list n zero j none lt passes =
    subst (λ i. p (slice_index list i) ≡ true) (let e : j + 0 ≡ j = omega arith in e) passes
no_rise-all p list n (suc m) j none lt passes =
    no_rise-all p list n m j none (omega arith)
    (subst (λ i. p (slice_index list i) ≡ true) (let e : j + suc m - 1 ≡ j + m = omega arith in e)
    (none (j + suc m) (omega arith) lt passes))

-- a list that is turned by a place: what stands first and last
pub record IsTurnedToRise (p : ℕ → Bool) (w : List ℕ) : Type 0 where
  pub x : ℕ
  pub xs : List ℕ
  pub ws : List ℕ
  pub z : ℕ
  pub begins : w ≡ x ∷ xs
  pub ends : w ≡ ws ++ z ∷ []
  pub passes : p x ≡ true
  pub fails : p z ≡ false

-- the items behind a place begin with that at it
drop_at : (list : List ℕ) (i : ℕ) → i < length list → drop i list ≡ slice_index list i ∷ drop (suc i) list
drop_at [] i lt = absurd (omega arith)
drop_at (x ∷ xs) zero lt = refl
drop_at (x ∷ xs) (suc i) lt = drop_at xs i (omega arith)

-- the items in front of a place end with that before it
take_at : (list : List ℕ) (i : ℕ) → i < length list → take (suc i) list ≡ take i list ++ slice_index list i ∷ []
take_at [] i lt = absurd (omega arith)
take_at (x ∷ xs) zero lt = refl
take_at (x ∷ xs) (suc i) lt = ap (λ us. x ∷ us) (take_at xs i (omega arith))

-- all items of a list
take_whole : (list : List ℕ) → take (length list) list ≡ list
take_whole [] = refl
take_whole (x ∷ xs) = ap (λ us. x ∷ us) (take_whole xs)

-- turned by the place of a rise
rise-IsTurned : (p : ℕ → Bool) (list : List ℕ) (i : ℕ) → IsRise p list (suc i)
    → IsTurnedToRise p (drop (suc i) list ++ take (suc i) list)
rise-IsTurned p list i rise = record {
  x = slice_index list (suc i);
  xs = drop (suc (suc i)) list ++ take (suc i) list;
  ws = drop (suc i) list ++ take i list;
  z = slice_index list i;
  begins = ap (λ us. us ++ take (suc i) list) (drop_at list (suc i) rise.within);
  ends = ap (λ us. drop (suc i) list ++ us) (take_at list i (omega (arith, rise.within)))
      ∙ sym (append_assoc (drop (suc i) list) (take i list) (slice_index list i ∷ []));
  passes = rise.passes;
  fails = subst (λ k. p (slice_index list k) ≡ false) (let e : suc i - 1 ≡ i = omega arith in e) rise.fails;
}

-- a list without a rise, of which some item passes and some other fails
no_rise-IsTurned : (p : ℕ → Bool) (list : List ℕ) → HasNoRise p list (length list)
    → ((k : ℕ) × Has k list × (p k ≡ true)) → ((k : ℕ) × Has k list × (p k ≡ false)) → IsTurnedToRise p list
no_rise-IsTurned p [] none some_in some_out = absurd some_in.1
no_rise-IsTurned p (y ∷ ys) none some_in some_out =
    let list : List ℕ = y ∷ ys in
    let m : ℕ = length ys in
    let i = Has-place some_in.0 list some_in.1 in
    let o = Has-place some_out.0 list some_out.1 in
    let whole : take (suc m) list ≡ list = take_whole list in record {
      x = y;
      xs = ys;
      ws = take m list;
      z = slice_index list m;
      begins = refl;
      ends = sym whole ∙ take_at list m (omega arith);
      passes = no_rise-first p list (length list) i.0 none i.1 (ap p i.2 ∙ some_in.2);
      fails = ⊎_elim
          (λ t. absurd (false≢true (sym some_out.2 ∙ ap p (sym o.2)
          ∙ no_rise-all p list (length list) (m - o.0) o.0 none (omega (arith, o.1))
          (subst (λ k. p (slice_index list k) ≡ true) (let e : m ≡ o.0 + (m - o.0) = omega (arith, o.1) in e) t))))
          (λ f. f)
          (cases_Bool (p (slice_index list m)));
    }

-- turned by the place that is told for a rise or for none
pub place-IsTurned : (p : ℕ → Bool) (list : List ℕ) (i : ℕ) → (0 < i → IsRise p list i)
    → (i ≡ 0 → HasNoRise p list (length list)) → ((k : ℕ) × Has k list × (p k ≡ true))
    → ((k : ℕ) × Has k list × (p k ≡ false)) → IsTurnedToRise p (drop i list ++ take i list)
place-IsTurned p list zero rise none some_in some_out =
    subst (IsTurnedToRise p) (sym (append-nil list)) (no_rise-IsTurned p list (none refl) some_in some_out)
place-IsTurned p list (suc i) rise none some_in some_out = rise-IsTurned p list i (rise (omega arith))

-- where a turned list is not its items that pass and then the others, no cut is there
pub unfiltered-none : (p : ℕ → Bool) (w list : List ℕ) → IsTurn list w → IsTurnedToRise p w
    → (filter p w ++ filter (λ k. not (p k)) w ≡ w → ⊥) → (first second : List ℕ) → IsCut p list first second → ⊥
unfiltered-none p w list turn t apart first second cut =
    apart (cut_filtered p w t.xs t.ws list first second t.x t.z t.begins t.ends t.passes t.fails turn cut)
