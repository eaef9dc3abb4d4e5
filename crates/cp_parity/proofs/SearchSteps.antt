-- What a step of a search keeps.
use Rattle.std.proofs.Common.{◌≡◌, ℕ, ◌+◌, ◌<◌, ◌≤◌, Bool, true, false, List, [], ◌∷◌, ◌++◌, length, set, get_or, Option, Some, None, is_some, replicate, slice_get, sym, refl, ap, ap₂, ◌∙◌, subst, inl, inr, ⊎_elim, arith, length-set}
use Rattle.std.specs.List.{All, Contains}
use Rattle.std.proofs.lemmas.Bool.{cases_eq, cases_lt, false≢true}
use Rattle.std.proofs.lemmas.Option.{none-some, same_Some, slice_get_within, slice_get-get_or}
use Rattle.std.proofs.lemmas.List.{get_or_default, get_or-set_same, get_or-set_other}
use Rattle.cp_lists.specs.Count.{count}
use Rattle.cp_lists.proofs.Counting.{count_all, count_inject}
use Rattle.cp_base.specs.declared.equation.Equation.{Equation}
use Rattle.cp_orbits.specs.Connected.{Joins}
use Rattle.cp_parity.specs.declared.found.Found.{Found}
use Rattle.cp_parity.specs.Equations.{differ, Touches, IsOverVars, IsMet}
use Rattle.cp_parity.specs.EquationLists.{AreOf}
use Rattle.cp_parity.specs.Search.{AreRooted, Hangs, IsTree, ArePlaced, IsSearch, StayFound, GoesOn, IsSettled, AreDone, AreAllDone, IsFound, HasBits}
use Rattle.cp_base.proofs.Bits.{differ-comm}
use Rattle.cp_parity.proofs.LookUps.{same_at, at_append, at_end, at_cases, at_set, at_set_other, at_replicate}

-- what hangs in a tree is rooted
pub IsTree-rooted : (eqs : List Equation) (root : ℕ) (found : List Found) → IsTree eqs root found → AreRooted root found
IsTree-rooted eqs root found tree k f lt at = let h = tree k f lt at in (h.not_before, h.earlier)

-- one var was found once
pub same_place : (found : List Found) (places : List (Option ℕ)) (j k : ℕ) (f g : Found)
    → ArePlaced found places → slice_get found j ≡ Some f → slice_get found k ≡ Some g → f.var ≡ g.var → j ≡ k
same_place found places j k f g placed one other e =
    same_Some j k (same_Some (Some j) (Some k)
    (sym (placed.placed j f one) ∙ ap (slice_get places) e ∙ placed.placed k g other))

-- as many vars as there are were found, or fewer
pub found-le : (found : List Found) (places : List (Option ℕ)) → ArePlaced found places → length found ≤ length places
found-le found places placed =
    omega (
      arith,
      count_all (length found) (λ i. true) (λ i lt. refl),
      count_all (length places) (λ i. true)
          (λ i lt. refl),
      inject,
    )
  where
    none : Found
    none = record { var = 0; bit = true; up = 0; link = 0 }

    var_of : ℕ → ℕ
    var_of k = (get_or found k none).var

    at : (k : ℕ) → k < length found → slice_get found k ≡ Some (get_or found k none)
    at k lt = slice_get-get_or found k none lt

    inject : count (length found) (λ i. true) ≤ count (length places) (λ i. true)
    inject = count_inject (length found) (length places) (λ i. true) (λ i. true) var_of
        (λ k lt t. (
          slice_get_within places (var_of k) (Some k) (placed.placed k (get_or found k none) (at k lt)),
          refl,
        ))
        (λ j k ltj ltk t u e. same_place found places j k (get_or found j none) (get_or found k none) placed (at j ltj)
        (at k ltk) e)

-- a var more is found
pub ArePlaced-find : (found : List Found) (places : List (Option ℕ)) (f : Found)
    → ArePlaced found places → f.var < length places → slice_get places f.var ≡ Some None
    → ArePlaced (found ++ f ∷ []) (set places f.var (Some (length found)))
ArePlaced-find found places f placed within new = record { named = named; placed = all }
  where
    more : List Found
    more = found ++ f ∷ []

    names : List (Option ℕ)
    names = set places f.var (Some (length found))

    here : slice_get names f.var ≡ Some (Some (length found))
    here = at_set places f.var (Some (length found)) within

    named : (x k : ℕ) → slice_get names x ≡ Some (Some k) → (g : Found) × (slice_get more k ≡ Some g) × (g.var ≡ x)
    named x k is = ⊎_elim
        (λ e. let at : k ≡ length found = same_Some k (length found) (same_Some (Some k) (Some (length found)) (sym is
        ∙ ap (slice_get names) e ∙ here)) in
        (f, ap (slice_get more) at ∙ at_end found f, sym e))
        (λ ne. let old = placed.named x k (sym (at_set_other places f.var x (Some (length found)) ne) ∙ is) in
        (old.0, at_append found (f ∷ []) k old.0 old.1, old.2))
        (cases_eq x f.var)

    all : (k : ℕ) (g : Found) → slice_get more k ≡ Some g → slice_get names g.var ≡ Some (Some k)
    all k g at = ⊎_elim
        (λ old. at_set_other places f.var g.var (Some (length found))
        (λ e. none-some k (same_Some None (Some k) (sym new ∙ ap (slice_get places) (sym e) ∙ placed.placed k g old)))
        ∙ placed.placed k g old)
        (λ last. ap (λ (h : Found). slice_get names h.var) (sym last.1) ∙ here
        ∙ ap (λ (i : ℕ). Some (Some i)) (sym last.0))
        (at_cases found f k g at)

-- what was found stays as more is found
pub StayFound-append : (found more : List Found) → StayFound found (found ++ more)
StayFound-append found more k f at = at_append found more k f at

-- what hangs stays hanging
pub Hangs-stay : (eqs : List Equation) (root : ℕ) (found more : List Found) (k : ℕ) (f : Found)
    → StayFound found more → Hangs eqs root found k f → Hangs eqs root more k f
Hangs-stay eqs root found more k f stay h = record {
  above = h.above;
  equation = h.equation;
  not_before = h.not_before;
  earlier = h.earlier;
  up_at = stay f.up h.above h.up_at;
  link_at = h.link_at;
  joined = h.joined;
  tied = h.tied;
}

-- a tree grows by what hangs in it
pub IsTree-find : (eqs : List Equation) (root : ℕ) (found : List Found) (f : Found)
    → IsTree eqs root found → Hangs eqs root found (length found) f → IsTree eqs root (found ++ f ∷ [])
IsTree-find eqs root found f tree h k g lt at = ⊎_elim
    (λ old. Hangs-stay eqs root found (found ++ f ∷ []) k g stay (tree k g lt old))
    (λ last. subst (λ (i : ℕ). Hangs eqs root (found ++ f ∷ []) i g) (sym last.0)
    (subst (λ (x : Found). Hangs eqs root (found ++ f ∷ []) (length found) x) last.1
    (Hangs-stay eqs root found (found ++ f ∷ []) (length found) f stay h)))
    (at_cases found f k g at)
  where
    stay : StayFound found (found ++ f ∷ [])
    stay = StayFound-append found (f ∷ [])

-- a root alone is a tree
pub IsTree-root : (eqs : List Equation) (found : List Found) (f : Found) → IsTree eqs (length found) (found ++ f ∷ [])
IsTree-root eqs found f k g lt at = ⊎_elim
    (λ old. absurd (let within : k < length found = slice_get_within found k g old in omega arith))
    (λ last. absurd (omega (arith, last.0)))
    (at_cases found f k g at)

-- no step
pub GoesOn-same : (eqs : List Equation) (root : ℕ) (found : List Found) (places : List (Option ℕ))
    → IsSearch eqs root found places → GoesOn eqs root found places found places
GoesOn-same eqs root found places search = record { is_search = search; same_size = refl; stay = λ k f at. at }

-- one step and then another
pub GoesOn-trans : (eqs : List Equation) (root : ℕ) (a : List Found) (p : List (Option ℕ)) (b : List Found)
    (q : List (Option ℕ)) (c : List Found) (r : List (Option ℕ))
    → GoesOn eqs root a p b q → GoesOn eqs root b q c r → GoesOn eqs root a p c r
GoesOn-trans eqs root a p b q c r one two = record {
  is_search = two.is_search;
  same_size = two.same_size ∙ one.same_size;
  stay = λ k f at. two.stay k f (one.stay k f at);
}

-- a step to a var that was not found
pub GoesOn-find : (eqs : List Equation) (root : ℕ) (found : List Found) (places : List (Option ℕ)) (f : Found)
    → IsSearch eqs root found places → f.var < length places → slice_get places f.var ≡ Some None
    → Hangs eqs root found (length found) f
    → GoesOn eqs root found places (found ++ f ∷ []) (set places f.var (Some (length found)))
GoesOn-find eqs root found places f search within new h = record {
  is_search = record {
    are_placed = ArePlaced-find found places f search.are_placed within new;
    is_tree = IsTree-find eqs root found f search.is_tree h;
  };
  same_size = length-set places f.var (Some (length found));
  stay = StayFound-append found (f ∷ []);
}

-- two vars at or behind the root, whose bits meet the equation that joins them
pub IsSettled-from : (root : ℕ) (found : List Found) (e : Equation) (j k : ℕ) (f g : Found)
    → slice_get found j ≡ Some f → slice_get found k ≡ Some g → root ≤ j → root ≤ k
    → Joins (e.x, e.y) f.var g.var → differ f.bit g.bit ≡ e.odd → IsSettled root found e
IsSettled-from root found e j k f g fj gk rj rk joined met = ⊎_elim
    (λ h. record {
      one = j;
      other = k;
      first = f;
      second = g;
      one_at = fj;
      other_at = gk;
      one_var = sym h.0;
      other_var = sym h.1;
      met = met;
      together = ((λ lt. absurd (omega arith)), (λ lt. absurd (omega arith)));
    })
    (λ h. record {
      one = k;
      other = j;
      first = g;
      second = f;
      one_at = gk;
      other_at = fj;
      one_var = sym h.0;
      other_var = sym h.1;
      met = differ-comm g.bit f.bit ∙ met;
      together = ((λ lt. absurd (omega arith)), (λ lt. absurd (omega arith)));
    })
    joined

-- what is settled stays settled
pub IsSettled-stay : (root : ℕ) (found more : List Found) (e : Equation) → StayFound found more
    → IsSettled root found e → IsSettled root more e
IsSettled-stay root found more e stay s = record {
  one = s.one;
  other = s.other;
  first = s.first;
  second = s.second;
  one_at = stay s.one s.first s.one_at;
  other_at = stay s.other s.second s.other_at;
  one_var = s.one_var;
  other_var = s.other_var;
  met = s.met;
  together = s.together;
}

-- what is settled is so before a later root
pub IsSettled-before : (root : ℕ) (found : List Found) (e : Equation) → IsSettled root found e
    → IsSettled (length found) found e
IsSettled-before root found e s = record {
  one = s.one;
  other = s.other;
  first = s.first;
  second = s.second;
  one_at = s.one_at;
  other_at = s.other_at;
  one_var = s.one_var;
  other_var = s.other_var;
  met = s.met;
  together = (
    (λ lt. slice_get_within found s.other s.second s.other_at),
    (λ lt. slice_get_within found s.one s.first s.one_at),
  );
}

-- a var that an equation joins to one behind the root is not before it
pub not_before_root : (eqs : List Equation) (root : ℕ) (found : List Found) (places : List (Option ℕ)) (e : Equation)
    (link from to : ℕ) (f g : Found)
    → ArePlaced found places → AreDone eqs root found from → slice_get eqs link ≡ Some e
    → slice_get found from ≡ Some f → slice_get found to ≡ Some g → root ≤ from → Joins (e.x, e.y) f.var g.var
    → root ≤ to
not_before_root eqs root found places e link from to f g placed done link_at fat gat below joined = ⊎_elim
    (λ lt. absurd (⊎_elim
    (λ h. let s = done to g link e (omega arith) gat link_at (inr h.1) in
    let one : s.one ≡ from = same_place found places s.one from s.first f placed s.one_at fat (s.one_var ∙ h.0) in
    let other : s.other ≡ to = same_place found places s.other to s.second g placed s.other_at gat (s.other_var
    ∙ h.1) in
    let before : s.one < root = s.together.1 (omega (arith, other)) in
    omega arith)
    (λ h. let s = done to g link e (omega arith) gat link_at (inl h.0) in
    let one : s.one ≡ to = same_place found places s.one to s.first g placed s.one_at gat (s.one_var ∙ h.0) in
    let other : s.other ≡ from = same_place found places s.other from s.second f placed s.other_at fat (s.other_var
    ∙ h.1) in
    let before : s.other < root = s.together.0 (omega (arith, one)) in
    omega arith)
    joined))
    (λ le. le)
    (cases_lt to root)

-- what is done stays done
pub AreDone-stay : (eqs : List Equation) (root : ℕ) (found more : List Found) (done : ℕ)
    → StayFound found more → done ≤ length found → AreDone eqs root found done → AreDone eqs root more done
AreDone-stay eqs root found more done stay le all k f i e lt at =
    let old : slice_get found k ≡ Some (get_or found k f) = slice_get-get_or found k f (omega arith) in
    let same : get_or found k f ≡ f = same_at more k (get_or found k f) f (stay k (get_or found k f) old) at in
    λ eat touches. IsSettled-stay root found more e stay (all k f i e lt (old ∙ ap Some same) eat touches)

-- what was found stays the same
pub same_found : (found more : List Found) (k : ℕ) (f g : Found) → StayFound found more → slice_get found k ≡ Some f
    → slice_get more k ≡ Some g → f ≡ g
same_found found more k f g stay one other = same_at more k f g (stay k f one) other

-- where the equations of one var more are settled, one more is done
pub AreDone-next : (eqs : List Equation) (root : ℕ) (found : List Found) (done : ℕ) (f : Found) (links : List ℕ)
    → AreDone eqs root found done → slice_get found done ≡ Some f → AreOf eqs (length eqs) f.var links
    → ((j : ℕ) (e : Equation) → j < length links → slice_get eqs (get_or links j 0) ≡ Some e → IsSettled root found e)
    → AreDone eqs root found (done + 1)
AreDone-next eqs root found done f links all at of settled k g i e lt gat eat touches = ⊎_elim
    (λ same. let is : g ≡ f = same_at found done g f (ap (slice_get found) (sym same) ∙ gat) at in
    let c : Contains links i = of.all i e (slice_get_within eqs i e eat) eat
    (subst (λ (h : Found). Touches e h.var) is touches) in
    settled c.0 e c.1 (ap (slice_get eqs) (get_or_default links c.0 0 i c.1 ∙ c.2) ∙ eat))
    (λ ne. all k g i e (omega arith) gat eat touches)
    (cases_eq k done)

-- a var that was found has its place
pub var_within : (found : List Found) (places : List (Option ℕ)) (k : ℕ) (f : Found) → ArePlaced found places
    → slice_get found k ≡ Some f → f.var < length places
var_within found places k f placed at = slice_get_within places f.var (Some k) (placed.placed k f at)

-- what is done before a later root
pub AreDone-before : (eqs : List Equation) (root : ℕ) (found : List Found) → AreDone eqs root found (length found)
    → AreAllDone eqs found
AreDone-before eqs root found done k f i e lt at eat t = IsSettled-before root found e (done k f i e lt at eat t)

-- nothing was found
pub ArePlaced-none : (vars : ℕ) → ArePlaced [] (replicate vars None)
ArePlaced-none vars = record {
  named = λ x k at. absurd (none-some k (at_replicate vars None x (Some k) at));
  placed = λ k f at. absurd (none-some f at);
}

-- the bit of one var more
pub HasBits-more : (found : List Found) (places : List (Option ℕ)) (done : ℕ) (f : Found) (bits : List Bool)
    → ArePlaced found places → slice_get found done ≡ Some f → f.var < length bits → HasBits found done bits
    → HasBits found (done + 1) (set bits f.var f.bit)
HasBits-more found places done f bits placed at within all k g lt gat = ⊎_elim
    (λ same. let is : f ≡ g = same_at found done f g at (ap (slice_get found) (sym same) ∙ gat) in
    ap (λ (h : Found). get_or (set bits f.var f.bit) h.var false) (sym is)
    ∙ get_or-set_same bits f.var f.bit false within ∙ ap (λ (h : Found). h.bit) is)
    (λ ne. get_or-set_other bits f.var g.var f.bit false (λ e. ne (same_place found places k done g f placed gat at e))
    ∙ all k g (omega arith) gat)
    (cases_eq k done)

-- where all vars were found and all is done, their bits meet all equations
pub all_met : (eqs : List Equation) (vars : ℕ) (found : List Found) (bits : List Bool)
    → All (IsOverVars vars) eqs → ((x : ℕ) → x < vars → IsFound found x) → AreAllDone eqs found
    → HasBits found (length found) bits → All (IsMet bits) eqs
all_met eqs vars found bits within found_all done has i d lt =
    let e : Equation = get_or eqs i d in
    let at : slice_get eqs i ≡ Some e = slice_get-get_or eqs i d lt in
    let f : IsFound found e.x = found_all e.x (within i d lt).0 in
    let s : IsSettled (length found) found e = done f.0 f.1 i e (slice_get_within found f.0 f.1 f.2) f.2 at
    (inl (sym f.3)) in
    ap₂ differ
    (ap (λ (x : ℕ). get_or bits x false) (sym s.one_var) ∙ has s.one s.first
    (slice_get_within found s.one s.first s.one_at) s.one_at)
    (ap (λ (x : ℕ). get_or bits x false) (sym s.other_var) ∙ has s.other s.second
    (slice_get_within found s.other s.second s.other_at) s.other_at)
    ∙ s.met

-- a var whose place is told was found
pub IsFound-named : (found : List Found) (places : List (Option ℕ)) (x : ℕ) (o : Option ℕ) → ArePlaced found places
    → slice_get places x ≡ Some o → is_some o ≡ true → IsFound found x
IsFound-named found places x None placed at some = absurd (false≢true some)
IsFound-named found places x (Some k) placed at some = let f = placed.named x k at in (k, f.0, f.1, f.2)

-- what was found stays found
pub IsFound-stay : (found more : List Found) (x : ℕ) → StayFound found more → IsFound found x → IsFound more x
IsFound-stay found more x stay is = (is.0, is.1, stay is.0 is.1 is.2, is.3)

-- the vars below x and x itself are those below the next one
pub IsFound-next : (found : List Found) (x : ℕ) → ((y : ℕ) → y < x → IsFound found y) → IsFound found x → (y : ℕ)
    → y < x + 1 → IsFound found y
IsFound-next found x lower here y lt = ⊎_elim (λ same. subst (IsFound found) (sym same) here)
    (λ ne. lower y (omega arith)) (cases_eq y x)

-- a search begins at a var that was not found
pub begun : (eqs : List Equation) (found : List Found) (places : List (Option ℕ)) (f : Found) (root : ℕ)
    (more : List Found) (names : List (Option ℕ))
    → ArePlaced found places → AreAllDone eqs found → f.var < length places → slice_get places f.var ≡ Some None
    → root ≡ length found → more ≡ found ++ f ∷ [] → names ≡ set places f.var (Some (length found))
    → IsSearch eqs root more names × AreDone eqs root more root × IsFound more f.var × StayFound found more
begun eqs found places f root more names placed done within new root_is more_is names_is = (
  subst (λ (k : ℕ). IsSearch eqs k more names) (sym root_is)
      (subst (λ (xs : List Found). IsSearch eqs (length found) xs names) (sym more_is)
      (subst (IsSearch eqs (length found) (found ++ f ∷ [])) (sym names_is)
      (record { are_placed = ArePlaced-find found places f placed within new; is_tree = IsTree-root eqs found f }))),
  subst (λ (k : ℕ). AreDone eqs k more k) (sym root_is)
      (AreDone-stay eqs (length found) found more (length found) stay (omega arith) done),
  (length found, f, ap (λ (xs : List Found). slice_get xs (length found)) more_is ∙ at_end found f, refl),
  stay,
)
  where
    stay : StayFound found more
    stay = subst (StayFound found) (sym more_is) (StayFound-append found (f ∷ []))
