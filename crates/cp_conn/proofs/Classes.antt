-- Classes that are numbered by their least members.
use Rattle.std.proofs.Common.{◌≡◌, ℕ, List, length, get_or, eqb, sym, ap, ◌∙◌, subst, ◌<◌, ◌≤◌, arith}
use Rattle.cp_lists.specs.Count.{count, IsCount}
use Rattle.cp_orbits.specs.Connected.{Connected}
use Rattle.cp_orbits.specs.Classes.{labels, classes}
use Rattle.cp_lists.proofs.Counting.{count_agree}
use Rattle.cp_orbits.proofs.ClassLabels.{labels-le, labels-labels, connected_label, Connected-sym, leads_component, IsCount-classes}
use Rattle.cp_conn.specs.Numbering.{IsLeast, AreNumbered}

-- the least vertices of components give the numbers of the components
pub numbered_components : (es : List (ℕ × ℕ)) (n : ℕ) (least numbers : List ℕ) → length least ≡ n
    → ((x : ℕ) → x < n → get_or least x 0 ≡ labels es x) → length numbers ≡ length least
    → ((x : ℕ) → x < length least → get_or numbers x 0 ≡ count (get_or least x 0) (λ y. eqb (get_or least y 0) y))
    → AreNumbered (Connected es) n numbers
numbered_components es n least numbers size labelled same counted = record {
  one_each = same ∙ size;
  by_least = λ x lt. record {
    least = labels es x;
    related = Connected-sym es x (labels es x) (connected_label es x);
    leads = (leads_component es (labels es x)).0 (labels-labels es x);
    counted = count_at x lt;
  };
}
  where
    -- the number of a vertex counts the labels below its own
    count_is : (x : ℕ) → x < n → get_or numbers x 0 ≡ classes (labels es x) es
    count_is x lt = counted x (omega arith) ∙ ap (λ (k : ℕ). count k (λ y. eqb (get_or least y 0) y)) (labelled x lt)
        ∙ count_agree (labels es x) (λ y. eqb (get_or least y 0) y) (λ y. eqb (labels es y) y)
        (λ y l. ap (λ (k : ℕ). eqb k y) (labelled y (omega (arith, labels-le es x))))

    -- the number of a vertex counts the least vertices of components below its own
    count_at : (x : ℕ) → x < n → IsCount (IsLeast (Connected es)) (labels es x) (get_or numbers x 0)
    count_at x lt = subst (λ (k : ℕ). IsCount (IsLeast (Connected es)) (labels es x) k) (sym (count_is x lt))
        (IsCount-classes (labels es x) es)

-- a label is not above its number
pub labelled-le : (es : List (ℕ × ℕ)) (n : ℕ) (least : List ℕ) → length least ≡ n
    → ((x : ℕ) → x < n → get_or least x 0 ≡ labels es x) → (x : ℕ) → x < length least → get_or least x 0 ≤ x
labelled-le es n least size labelled x lt = omega (arith, labelled x (omega arith), labels-le es x)

-- a label is its own label
pub labelled_leads : (es : List (ℕ × ℕ)) (n : ℕ) (least : List ℕ) → length least ≡ n
    → ((x : ℕ) → x < n → get_or least x 0 ≡ labels es x) → (x : ℕ) → x < length least
    → get_or least (get_or least x 0) 0 ≡ get_or least x 0
labelled_leads es n least size labelled x lt =
    ap (λ (k : ℕ). get_or least k 0) (labelled x (omega arith)) ∙ labelled (labels es x) (omega (arith, labels-le es x))
    ∙ labels-labels es x ∙ sym (labelled x (omega arith))

-- the numbers of the components, as a program reads the list of least vertices
pub numbered_parts : (es : List (ℕ × ℕ)) (n : ℕ) (least seen numbers : List ℕ) → seen ≡ least → length least ≡ n
    → ((x : ℕ) → x < n → get_or least x 0 ≡ labels es x) → length numbers ≡ length seen
    → ((x : ℕ) → x < length seen → get_or numbers x 0 ≡ count (get_or seen x 0) (λ y. eqb (get_or seen y 0) y))
    → AreNumbered (Connected es) n numbers
numbered_parts es n least seen numbers seen_is size labelled same counted =
    numbered_components es n least numbers size labelled (same ∙ ap length seen_is)
    (subst
    (λ (xs : List ℕ). (x : ℕ) → x < length xs
    → get_or numbers x 0 ≡ count (get_or xs x 0) (λ y. eqb (get_or xs y 0) y))
    seen_is counted)

-- a label is below the number of vertices
pub labelled-lt : (es : List (ℕ × ℕ)) (n : ℕ) (least : List ℕ) → length least ≡ n
    → ((x : ℕ) → x < n → get_or least x 0 ≡ labels es x) → (x : ℕ) → x < length least → get_or least x 0 < length least
labelled-lt es n least size labelled x lt = omega (arith, labelled-le es n least size labelled x lt)
