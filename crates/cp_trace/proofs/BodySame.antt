-- The text of a shape tells the shape, and where it ends.
use Rattle.std.proofs.Common.{◌≡◌, ℕ, ◌<◌, ◌≤◌, ◌^◌, List, [], ◌∷◌, ◌++◌, map, inl, inr, sym, refl, ap, ◌∙◌, subst, arith, append_assoc, length}
use Rattle.std.specs.List.{AllByRecursion, flat_map, join_with_byte}
use Rattle.std.specs.Fmt.{decimal}
use Rattle.std.specs.Str.Parse.{AllDigits}
use Rattle.std.proofs.lemmas.Str.Parse.{digit_from_value}
use Rattle.std.proofs.lemmas.Fmt.{decimal_injective, decimal_nonempty, digits_decimal}
use Rattle.cp_base.specs.declared.shape.Branch.{Branch}
use Rattle.cp_base.specs.declared.shape.Branch.TheOpen.{Branch-F}
use Rattle.cp_base.specs.declared.shape.Branch.TheViews.{roll-Branch}
use Rattle.cp_base.specs.declared.shape.Branch.TheFolds.{fold-roll-Branch, ind-Branch, map-Branch}
use Rattle.cp_base.specs.declared.shape.Branch.TheVariants.{Leaf, P, Q, rolls-Leaf, rolls-P, rolls-Q}
use Rattle.cp_base.specs.Shapes.{leaves, leaves_step}
use Rattle.cp_trace.specs.Faults.{AreSmall}
use Rattle.cp_trace.specs.Bodies.{HasNoDigit, kids_text, spaced_kids}
use Rattle.cp_trace.specs.Texts.{body_text}
use Rattle.cp_trace.proofs.BodyLemmas.{body_text-Leaf, body_text-P, body_text-Q}
use Rattle.cp_trace.proofs.NumberLemmas.{own}
use Rattle.cp_trace.proofs.ToldLists.{all_behind, all_front}

-- the leaves of a leaf
pub leaves-Leaf : (x : ℕ) → leaves (Leaf x) ≡ x ∷ []
unfolding leaves
leaves-Leaf x = ap leaves (sym (rolls-Leaf x)) ∙ fold-roll-Branch (List ℕ) leaves_step (Branch-F.Leaf x)

-- of a P-node
pub leaves-P : (kids : List Branch) → leaves (P kids) ≡ flat_map (λ ls. ls) (map leaves kids)
unfolding leaves
leaves-P kids = ap leaves (sym (rolls-P kids)) ∙ fold-roll-Branch (List ℕ) leaves_step (Branch-F.P kids)

-- of a Q-node
pub leaves-Q : (kids : List Branch) → leaves (Q kids) ≡ flat_map (λ ls. ls) (map leaves kids)
unfolding leaves
leaves-Q kids = ap leaves (sym (rolls-Q kids)) ∙ fold-roll-Branch (List ℕ) leaves_step (Branch-F.Q kids)

-- the leaves of all kids can be told
abbrev pub AreSmallKids : List Branch → Type 0
AreSmallKids kids = AllByRecursion (λ kid. AreSmall (leaves kid)) kids

-- where those of the node can
small_kids : (kids : List Branch) → AreSmall (flat_map (λ ls. ls) (map leaves kids)) → AreSmallKids kids
small_kids [] small = tt
small_kids (k ∷ ks) small = (
  all_front (λ n. n < 2 ^ 63) (leaves k) (flat_map (λ ls. ls) (map leaves ks)) small,
  small_kids ks (all_behind (λ n. n < 2 ^ 63) (leaves k) (flat_map (λ ls. ls) (map leaves ks)) small),
)

-- what holds of leaves, and of inner nodes where it holds of all their kids, holds of each branch
pub branch_induction : (M : Branch → Type 0)
    → ((x : ℕ) → M (Leaf x))
    → ((kids : List Branch) → AllByRecursion M kids → M (P kids))
    → ((kids : List Branch) → AllByRecursion M kids → M (Q kids))
    → (b : Branch) → M b
branch_induction M leaf p q = ind-Branch M step
  where
    all_of : (es : List ((b : Branch) × M b)) → AllByRecursion M (map (λ e. e.0) es)
    all_of [] = tt
    all_of (e ∷ es) = (e.1, all_of es)

    step : (x : Branch-F Branch) (y : Branch-F ((b : Branch) × M b))
        → map-Branch ((b : Branch) × M b) Branch (λ e. e.0) y ≡ x → M (roll-Branch x)
    step x (Branch-F.Leaf z) e = subst (λ w. M (roll-Branch w)) e (subst M (sym (rolls-Leaf z)) (leaf z))
    step x (Branch-F.P es) e =
        subst (λ w. M (roll-Branch w)) e (subst M (sym (rolls-P (map (λ e. e.0) es))) (p (map (λ e. e.0) es) (all_of
        es)))
    step x (Branch-F.Q es) e =
        subst (λ w. M (roll-Branch w)) e (subst M (sym (rolls-Q (map (λ e. e.0) es))) (q (map (λ e. e.0) es) (all_of
        es)))

-- digits, and then no digit, split a text in one way
pub digits_same : (ds es rest other : List ℕ) → AllDigits 10 ds → AllDigits 10 es → HasNoDigit rest → HasNoDigit other
    → ds ++ rest ≡ es ++ other → (ds ≡ es) × (rest ≡ other)
digits_same [] [] rest other dd de nr ns h = (refl, h)
digits_same [] (e ∷ es) [] other dd de nr ns h = absurd cc
digits_same [] (e ∷ es) (r ∷ rest) other dd de nr ns h =
    let same : r ≡ e = cc in
    let range = digit_from_value e de.0 in
    absurd (elim nr [ inl low ↦ omega (arith, same, range.0, low) | inr high ↦ omega (arith, same, range.1, high) ])
digits_same (d ∷ ds) [] rest [] dd de nr ns h = absurd cc
digits_same (d ∷ ds) [] rest (r ∷ other) dd de nr ns h =
    let same : d ≡ r = cc in
    let range = digit_from_value d dd.0 in
    absurd (elim ns [ inl low ↦ omega (arith, same, range.0, low) | inr high ↦ omega (arith, same, range.1, high) ])
digits_same (d ∷ ds) (e ∷ es) rest other dd de nr ns h =
    let head : d ≡ e = cc in
    let tails : ds ++ rest ≡ es ++ other = cc in
    let both = digits_same ds es rest other dd.1 de.1 nr ns tails in
    (ap (λ n. n ∷ ds) head ∙ ap (λ t. e ∷ t) both.0, both.1)

-- the first byte of a text
abbrev pub first_byte : List ℕ → ℕ
first_byte [] = 0
first_byte (b ∷ bs) = b

-- a number begins with a digit
decimal_first : (ds rest : List ℕ) → AllDigits 10 ds → 0 < length ds
    → (48 ≤ first_byte (ds ++ rest)) × (first_byte (ds ++ rest) ≤ 57)
decimal_first [] rest all some = absurd (omega (arith, some))
decimal_first (d ∷ ds) rest all some = let range = digit_from_value d all.0 in (range.0, range.1)

-- the same for a number below 9223372036854775808
pub number_first : (n : ℕ) (rest : List ℕ) → n < 2 ^ 63
    → (48 ≤ first_byte (decimal n ++ rest)) × (first_byte (decimal n ++ rest) ≤ 57)
number_first n rest small =
    decimal_first (decimal n) rest (digits_decimal own n (omega (arith, small))) (decimal_nonempty n (omega (
      arith,
      small,
    )))

-- the text of a P-node, and what stands behind it
pub text_behind_P : (kids : List Branch) (rest : List ℕ) → body_text (P kids) ++ rest ≡ 80 ∷ 91 ∷ (kids_text kids ++
    rest)
text_behind_P kids rest = ap (λ t. t ++ rest) (body_text-P kids)

-- the same for a Q-node
pub text_behind_Q : (kids : List Branch) (rest : List ℕ) → body_text (Q kids) ++ rest ≡ 81 ∷ 91 ∷ (kids_text kids ++
    rest)
text_behind_Q kids rest = ap (λ t. t ++ rest) (body_text-Q kids)

-- the same for a leaf
pub text_behind_Leaf : (x : ℕ) (rest : List ℕ) → body_text (Leaf x) ++ rest ≡ decimal x ++ rest
text_behind_Leaf x rest = ap (λ t. t ++ rest) (body_text-Leaf x)

-- the text of one kid
pub one_kid : (kid : Branch) (rest : List ℕ) → kids_text (kid ∷ []) ++ rest ≡ body_text kid ++ 93 ∷ rest
one_kid kid rest = append_assoc (body_text kid) (93 ∷ []) rest

-- the text of more kids: the first one, and a blank
pub more_kids : (kid next : Branch) (kids : List Branch) (rest : List ℕ)
    → kids_text (kid ∷ next ∷ kids) ++ rest ≡ body_text kid ++ 32 ∷ (kids_text (next ∷ kids) ++ rest)
more_kids kid next kids rest =
    let row : List ℕ = join_with_byte 32 (map body_text (next ∷ kids)) in
    ap (λ t. t ++ rest) (append_assoc (body_text kid) (32 ∷ row) (93 ∷ []))
    ∙ append_assoc (body_text kid) (32 ∷ (row ++ 93 ∷ [])) rest

-- a branch is a leaf or an inner node
pub branch_cases : (M : Branch → Type 0) → ((x : ℕ) → M (Leaf x)) → ((kids : List Branch) → M (P kids))
    → ((kids : List Branch) → M (Q kids)) → (b : Branch) → M b
branch_cases M leaf p q = branch_induction M leaf (λ kids all. p kids) (λ kids all. q kids)

-- the leaf of a leaf is small
pub small_leaf : (x : ℕ) → AreSmall (leaves (Leaf x)) → x < 2 ^ 63
small_leaf x small = (let all : AreSmall (x ∷ []) = subst AreSmall (leaves-Leaf x) small in all.0)

-- the leaves of the kids of a P-node are small
pub small_P : (kids : List Branch) → AreSmall (leaves (P kids)) → AreSmallKids kids
small_P kids small = small_kids kids (subst AreSmall (leaves-P kids) small)

-- those of a Q-node too
pub small_Q : (kids : List Branch) → AreSmall (leaves (Q kids)) → AreSmallKids kids
small_Q kids small = small_kids kids (subst AreSmall (leaves-Q kids) small)

-- a text begins with a digit or a letter
body_first : (b : Branch) (rest : List ℕ) → AreSmall (leaves b)
    → (48 ≤ first_byte (body_text b ++ rest)) × (first_byte (body_text b ++ rest) ≤ 81)
body_first = branch_cases
    (λ b. (rest : List ℕ) → AreSmall (leaves b)
    → (48 ≤ first_byte (body_text b ++ rest)) × (first_byte (body_text b ++ rest) ≤ 81))
    (λ x rest small.
    let first = number_first x rest (small_leaf x small) in
    let same = ap first_byte (text_behind_Leaf x rest) in
    (omega (arith, first.0, same), omega (arith, first.1, same)))
    (λ kids rest small.
    let same : first_byte (body_text (P kids) ++ rest) ≡ 80 = ap first_byte (text_behind_P kids rest) in
    (omega (arith, same), omega (arith, same)))
    (λ kids rest small.
    let same : first_byte (body_text (Q kids) ++ rest) ≡ 81 = ap first_byte (text_behind_Q kids rest) in
    (omega (arith, same), omega (arith, same)))

-- a text does not begin with a bracket
body_no_bracket : (b : Branch) (rest other : List ℕ) → AreSmall (leaves b) → 93 ∷ other ≡ body_text b ++ rest → ⊥
body_no_bracket b rest other small h =
    let first = body_first b rest small in
    let same : 93 ≡ first_byte (body_text b ++ rest) = ap first_byte h in
    omega (arith, first.1, same)

-- the text of kids where there are some does not begin with a bracket
pub kids_no_bracket : (k : Branch) (ks : List Branch) (rest other : List ℕ) → AreSmall (leaves k)
    → 93 ∷ other ≡ kids_text (k ∷ ks) ++ rest → ⊥
kids_no_bracket k [] rest other small h = body_no_bracket k (93 ∷ rest) other small (h ∙ one_kid k rest)
kids_no_bracket k (l ∷ ks) rest other small h =
    body_no_bracket k (32 ∷ (kids_text (l ∷ ks) ++ rest)) other small (h ∙ more_kids k l ks rest)

-- the text of the branch tells it
abbrev pub IsTold : Branch → Type 0
IsTold b = (c : Branch) (r s : List ℕ) → AreSmall (leaves b) → AreSmall (leaves c) → HasNoDigit r → HasNoDigit s
    → body_text b ++ r ≡ body_text c ++ s → (b ≡ c) × (r ≡ s)

-- where the texts of kids tell them, those of their rows do
kids_same : (ks js : List Branch) (r s : List ℕ) → AllByRecursion IsTold ks → AreSmallKids ks → AreSmallKids js
    → kids_text ks ++ r ≡ kids_text js ++ s → (ks ≡ js) × (r ≡ s)
kids_same [] [] r s told sk sj h = (refl, cc)
kids_same [] (j ∷ js) r s told sk sj h = absurd (kids_no_bracket j js s r sj.0 h)
kids_same (k ∷ ks) [] r s told sk sj h = absurd (kids_no_bracket k ks r s sk.0 (sym h))
kids_same (k ∷ []) (j ∷ []) r s told sk sj h =
    let both = told.0 j (93 ∷ r) (93 ∷ s) sk.0 sj.0 (inr (omega arith)) (inr (omega arith))
    (sym (one_kid k r) ∙ h ∙ one_kid j s) in
    (ap (λ (x : Branch). x ∷ []) both.0, (let e = both.1 in cc))
kids_same (k ∷ []) (j ∷ i ∷ js) r s told sk sj h =
    let both = told.0 j (93 ∷ r) (32 ∷ (kids_text (i ∷ js) ++ s)) sk.0 sj.0 (inr (omega arith)) (inl (omega arith))
    (sym (one_kid k r) ∙ h ∙ more_kids j i js s) in
    absurd (let e : 93 ≡ first_byte (32 ∷ (kids_text (i ∷ js) ++ s)) = ap first_byte both.1 in omega (arith, e))
kids_same (k ∷ l ∷ ks) (j ∷ []) r s told sk sj h =
    let both = told.0 j (32 ∷ (kids_text (l ∷ ks) ++ r)) (93 ∷ s) sk.0 sj.0 (inl (omega arith)) (inr (omega arith))
    (sym (more_kids k l ks r) ∙ h ∙ one_kid j s) in
    absurd (let e : 32 ≡ first_byte (93 ∷ s) = ap first_byte both.1 in omega (arith, e))
kids_same (k ∷ l ∷ ks) (j ∷ i ∷ js) r s told sk sj h =
    let both = told.0 j (32 ∷ (kids_text (l ∷ ks) ++ r)) (32 ∷ (kids_text (i ∷ js) ++ s)) sk.0 sj.0 (inl (omega arith))
    (inl (omega arith)) (sym (more_kids k l ks r) ∙ h ∙ more_kids j i js s) in
    let tails : kids_text (l ∷ ks) ++ r ≡ kids_text (i ∷ js) ++ s = (let e = both.1 in cc) in
    let rest = kids_same (l ∷ ks) (i ∷ js) r s told.1 sk.1 sj.1 tails in
    (ap (λ (x : Branch). x ∷ l ∷ ks) both.0 ∙ ap (λ (xs : List Branch). j ∷ xs) rest.0, rest.1)

-- the first bytes of two texts that are the same
same_first : (b c : Branch) (r s t u : List ℕ) → body_text b ++ r ≡ t → body_text c ++ s ≡ u
    → body_text b ++ r ≡ body_text c ++ s → t ≡ u
same_first b c r s t u p q h = sym p ∙ h ∙ q

-- the text of each branch tells it
pub body_same : (b : Branch) → IsTold b
body_same = branch_induction IsTold of_leaf of_P of_Q
  where
    of_leaf : (x : ℕ) → IsTold (Leaf x)
    of_leaf x = branch_cases
        (λ c. (r s : List ℕ) → AreSmall (leaves (Leaf x)) → AreSmall (leaves c) → HasNoDigit r → HasNoDigit s
        → body_text (Leaf x) ++ r ≡ body_text c ++ s → (Leaf x ≡ c) × (r ≡ s))
        (λ y r s sx sy nr ns h.
        let small = small_leaf x sx in
        let other = small_leaf y sy in
        let text = same_first (Leaf x) (Leaf y) r s (decimal x ++ r) (decimal y ++ s) (text_behind_Leaf x r)
        (text_behind_Leaf y s) h in
        let both = digits_same (decimal x) (decimal y) r s (digits_decimal own x (omega (arith, small)))
        (digits_decimal own y (omega (arith, other))) nr ns text in
        (ap Leaf (decimal_injective x y (omega (arith, small)) (omega (arith, other)) both.0), both.1))
        (λ kids r s sx sy nr ns h.
        let first = number_first x r (small_leaf x sx) in
        let same : first_byte (decimal x ++ r) ≡ 80 =
        ap first_byte (sym (text_behind_Leaf x r) ∙ h ∙ text_behind_P kids s) in
        absurd (omega (arith, first.1, same)))
        (λ kids r s sx sy nr ns h.
        let first = number_first x r (small_leaf x sx) in
        let same : first_byte (decimal x ++ r) ≡ 81 =
        ap first_byte (sym (text_behind_Leaf x r) ∙ h ∙ text_behind_Q kids s) in
        absurd (omega (arith, first.1, same)))

    of_P : (ks : List Branch) → AllByRecursion IsTold ks → IsTold (P ks)
    of_P ks told = branch_cases
        (λ c. (r s : List ℕ) → AreSmall (leaves (P ks)) → AreSmall (leaves c) → HasNoDigit r → HasNoDigit s
        → body_text (P ks) ++ r ≡ body_text c ++ s → (P ks ≡ c) × (r ≡ s))
        (λ y r s sx sy nr ns h.
        let first = number_first y s (small_leaf y sy) in
        let same : 80 ≡ first_byte (decimal y ++ s) =
        ap first_byte (sym (text_behind_P ks r) ∙ h ∙ text_behind_Leaf y s) in
        absurd (omega (arith, first.1, same)))
        (λ js r s sx sy nr ns h.
        let text : 80 ∷ 91 ∷ (kids_text ks ++ r) ≡ 80 ∷ 91 ∷ (kids_text js ++ s) =
        sym (text_behind_P ks r) ∙ h ∙ text_behind_P js s in
        let tails : kids_text ks ++ r ≡ kids_text js ++ s = cc in
        let both = kids_same ks js r s told (small_P ks sx) (small_P js sy) tails in
        (ap P both.0, both.1))
        (λ js r s sx sy nr ns h.
        let same : 80 ≡ first_byte (81 ∷ 91 ∷ (kids_text js ++ s)) =
        ap first_byte (sym (text_behind_P ks r) ∙ h ∙ text_behind_Q js s) in
        absurd (omega (arith, same)))

    of_Q : (ks : List Branch) → AllByRecursion IsTold ks → IsTold (Q ks)
    of_Q ks told = branch_cases
        (λ c. (r s : List ℕ) → AreSmall (leaves (Q ks)) → AreSmall (leaves c) → HasNoDigit r → HasNoDigit s
        → body_text (Q ks) ++ r ≡ body_text c ++ s → (Q ks ≡ c) × (r ≡ s))
        (λ y r s sx sy nr ns h.
        let first = number_first y s (small_leaf y sy) in
        let same : 81 ≡ first_byte (decimal y ++ s) =
        ap first_byte (sym (text_behind_Q ks r) ∙ h ∙ text_behind_Leaf y s) in
        absurd (omega (arith, first.1, same)))
        (λ js r s sx sy nr ns h.
        let same : 81 ≡ first_byte (80 ∷ 91 ∷ (kids_text js ++ s)) =
        ap first_byte (sym (text_behind_Q ks r) ∙ h ∙ text_behind_P js s) in
        absurd (omega (arith, same)))
        (λ js r s sx sy nr ns h.
        let text : 81 ∷ 91 ∷ (kids_text ks ++ r) ≡ 81 ∷ 91 ∷ (kids_text js ++ s) =
        sym (text_behind_Q ks r) ∙ h ∙ text_behind_Q js s in
        let tails : kids_text ks ++ r ≡ kids_text js ++ s = cc in
        let both = kids_same ks js r s told (small_Q ks sx) (small_Q js sy) tails in
        (ap Q both.0, both.1))

-- kids with one blank behind each, one more
spaced_more : (d : Branch) (ds : List Branch) (text : List ℕ)
    → spaced_kids (d ∷ ds) ++ text ≡ body_text d ++ 32 ∷ (spaced_kids ds ++ text)
spaced_more d ds text =
    append_assoc (body_text d ++ 32 ∷ []) (spaced_kids ds) text
    ∙ append_assoc (body_text d) (32 ∷ []) (spaced_kids ds ++ text)

-- a row of kids that begins with some of them goes on with a further one
pub kids_go_on : (ds ks : List Branch) (text rest : List ℕ) → AreSmallKids ds → AreSmallKids ks
    → (ds ≡ [] → ks ≡ [] → ⊥) → spaced_kids ds ++ text ≡ kids_text ks ++ rest
    → (m : Branch) × (more : List Branch) × (ks ≡ ds ++ m ∷ more) × (text ≡ kids_text (m ∷ more) ++ rest)
kids_go_on [] [] text rest sd sk due h = absurd (due refl refl)
kids_go_on [] (k ∷ ks) text rest sd sk due h = (k, ks, refl, h)
kids_go_on (d ∷ ds) [] text rest sd sk due h =
    absurd (body_no_bracket d (32 ∷ (spaced_kids ds ++ text)) rest sd.0 (sym h ∙ spaced_more d ds text))
kids_go_on (d ∷ ds) (k ∷ []) text rest sd sk due h =
    let both = body_same d k (32 ∷ (spaced_kids ds ++ text)) (93 ∷ rest) sd.0 sk.0 (inl (omega arith)) (inr (omega
    arith))
    (sym (spaced_more d ds text) ∙ h ∙ one_kid k rest) in
    absurd (let e : 32 ≡ first_byte (93 ∷ rest) = ap first_byte both.1 in omega (arith, e))
kids_go_on (d ∷ ds) (k ∷ l ∷ ks) text rest sd sk due h =
    let both = body_same d k (32 ∷ (spaced_kids ds ++ text)) (32 ∷ (kids_text (l ∷ ks) ++ rest)) sd.0 sk.0
    (inl (omega arith)) (inl (omega arith)) (sym (spaced_more d ds text) ∙ h ∙ more_kids k l ks rest) in
    let tails : spaced_kids ds ++ text ≡ kids_text (l ∷ ks) ++ rest = (let e = both.1 in cc) in
    let next = kids_go_on ds (l ∷ ks) text rest sd.1 sk.1 (λ e f. absurd cc) tails in
    (next.0, next.1, ap (λ (x : Branch). x ∷ l ∷ ks) (sym both.0) ∙ ap (λ (xs : List Branch). d ∷ xs) next.2, next.3)

-- where the digits at the front are no number that can be told, none stands there
pub no_number_at : (bytes digits rest : List ℕ) → AllDigits 10 digits → HasNoDigit rest → bytes ≡ digits ++ rest
    → ((n : ℕ) → n < 2 ^ 63 → digits ≡ decimal n → ⊥)
    → (n : ℕ) (other : List ℕ) → n < 2 ^ 63 → HasNoDigit other → bytes ≡ decimal n ++ other → ⊥
no_number_at bytes digits rest all ends cut none n other small ends_too h =
    none n small (digits_same digits (decimal n) rest other all (digits_decimal own n (omega (arith, small))) ends
    ends_too
    (sym cut ∙ h)).0
