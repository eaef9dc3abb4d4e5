-- In a rotation system of genus zero the parts between the poles of a bond can stand in each order.
use Rattle.std.proofs.Common.{◌≡◌, ◌≢◌, ℕ, zero, suc, ◌<◌, ◌≤◌, Bool, List, ◌++◌, length, map, take, drop, slice_index, sym, refl, ap, ◌∙◌, subst, ⊎_elim, arith}
use Rattle.std.specs.List.{filter}
use Rattle.std.proofs.lemmas.Bool.{cases_eq, cases_lt}
use Rattle.cp_lists.specs.CyclicLists.{Has}
use Rattle.cp_lists.proofs.DistinctLists.{Has_at}
use Rattle.cp_lists.proofs.FilteredLists.{Has-filter}
use Rattle.cp_lists.proofs.MappedLists.{Has-map_on, map_on-Has}
use Rattle.cp_orbits.specs.Classes.{classes, labels}
use Rattle.cp_orbits.specs.Connected.{Connected}
use Rattle.cp_orbits.proofs.ClassLabels.{Connected-sym, IsCount-classes, connected_label, labels-labels, leads_component}
use Rattle.cp_conn.specs.Bonds.{IsBond}
use Rattle.cp_conn.specs.Numbering.{AreNumbered, HasNumber}
use Rattle.cp_maps.specs.Maps.{has}
use Rattle.cp_maps.proofs.ListFacts.{has_true, has_yes}
use Rattle.cp_rot.specs.Genus.{HasGenusZero}
use Rattle.cp_rot.specs.Rewrites.{values}
use Rattle.cp_rot.specs.Systems.{Arranges, IsRotation, System, darts, list_of, vertex_of}
use Rattle.cp_rot.proofs.ListEdits.{length-values, values_at}
use Rattle.cp_rot.proofs.ListSystems.{Listed-system}
use Rattle.cp_rotlaw.specs.PoleClasses.{ArePoleParts, HasEndsApart, IsEnteredTest, IsPermutedRow, dart_part, pairs_between, permuted_list, permuted_row}
use Rattle.cp_rotlaw.specs.Poles.{graph_of}
use Rattle.cp_rotlaw.specs.Stars.{IsDartOf}
use Rattle.cp_rotlaw.proofs.PermutedSystems.{HasPermuted, HasPermuted-made, unchanged-IsPermutedAt}
use Rattle.cp_rotlaw.proofs.PoleLists.{turned-HasEndsApart}
use Rattle.cp_rotlaw.proofs.PoleParts.{ArePoleParts-numbers}
use Rattle.cp_rotlaw.proofs.PoleRows.{order_dart}

-- the numbers of the components of the first numbers
abbrev component_numbers : List (ℕ × ℕ) → ℕ → List ℕ
component_numbers es n = values n (λ x. classes (labels es x) es)

-- are right
component_numbers-AreNumbered : (es : List (ℕ × ℕ)) (n : ℕ) → AreNumbered (Connected es) n (component_numbers es n)
component_numbers-AreNumbered es n = record {
  one_each = length-values n (λ x. classes (labels es x) es);
  by_least = λ x lt.
      subst (HasNumber (Connected es) x) (sym (values_at n (λ y. classes (labels es y) es) x 0 lt)) record {
        least = labels es x;
        related = Connected-sym es x (labels es x) (connected_label es x);
        leads = (leads_component es (labels es x)).0 (labels-labels es x);
        counted = IsCount-classes (labels es x) es;
      };
}

-- the first of some numbers at which a function has another value than c, or their number
first_other : (p : ℕ → ℕ) (c n : ℕ)
    → (k : ℕ) × (k ≤ n) × ((j : ℕ) → j < k → p j ≡ c) × (k < n → p k ≢ c)
first_other p c zero = (zero, omega arith, λ j lt. absurd (omega arith), λ lt. absurd (omega arith))
first_other p c (suc n) =
    let f = first_other p c n in
    ⊎_elim
    (λ (lt : f.0 < n). (f.0, omega (arith, lt), f.2, λ l. f.3 lt))
    (λ (ge : n ≤ f.0).
    let at : f.0 ≡ n = omega (arith, ge, f.1) in
    ⊎_elim
    (λ same. (
      suc n,
      omega arith,
      λ j lt. ⊎_elim (λ e. ap p e ∙ same) (λ ne. f.2 j (omega (arith, ne, lt, at))) (cases_eq j n),
      λ lt. absurd (omega arith),
    ))
    (λ other. (n, omega arith, λ j lt. f.2 j (omega (arith, lt, at)), λ lt. other))
    (cases_eq (p n) c))
    (cases_lt f.0 n)

-- a rotation system with a bond, and an order of the darts of its first pole
module _ (r : System) (is : IsRotation r) (u v : ℕ) (ltu : u < r.vertices) (ltv : v < r.vertices)
    (bond : IsBond (graph_of r) u v) (order : List ℕ) (arr : Arranges r.at u order) where
  -- the number of the component of each vertex where u and v are removed
  abbrev numbers : List ℕ
  numbers = component_numbers (pairs_between r u v) r.vertices

  -- the part of a dart
  abbrev part : ℕ → ℕ
  part = dart_part r u v numbers

  -- the numbers tell the parts
  parts : ArePoleParts r u v (slice_index numbers) part
  parts = ArePoleParts-numbers r is u v ltu ltv numbers
      (component_numbers-AreNumbered (pairs_between r u v) r.vertices) bond

  -- those that darts of u enter
  abbrev entered : ℕ → Bool
  entered c = has c (map part (list_of r u))

  -- a dart of u is in the list of u
  own : (w d : ℕ) → IsDartOf r w d → Has d (list_of r w)
  own w d at = subst (λ x. Has d (list_of r x)) at.stands ((Listed-system r is).own d at.within)

  -- the test tells the parts that are entered
  test : IsEnteredTest r u part entered
  test = record {
    yes = λ d at. has_yes (part d) (map part (list_of r u)) (Has-map_on part d (list_of r u) (own u d at));
    from = λ d lt t.
        let k = map_on-Has part (part d) (list_of r u) (has_true (part d) (map part (list_of r u)) t) in
        let l = (Listed-system r is).item u k.0 ltu k.1 in
        (k.0, record { within = l.0; stands = l.1 }, k.2);
  }

  -- the darts of v in these parts
  abbrev held : List ℕ
  held = filter (λ d. entered (part d)) (list_of r v)

  -- where the first of another part stands
  found : (k : ℕ) × (k ≤ length held) × ((j : ℕ) → j < k → part (slice_index held j) ≡ part (slice_index held 0))
      × (k < length held → part (slice_index held k) ≢ part (slice_index held 0))
  found = first_other (λ j. part (slice_index held j)) (part (slice_index held 0)) (length held)

  -- the darts from there on
  abbrev ws : List ℕ
  ws = drop found.0 held ++ take found.0 held

  -- two darts of the order
  dart_at : (k : ℕ) → k < length order → IsDartOf r u (slice_index order k)
  dart_at k lt = order_dart r u order arr (slice_index order k) (Has_at order k lt)

  -- lead to darts of v that are held
  held_has : (z : ℕ) → IsDartOf r u z → (f : ℕ) × Has f held × (part f ≡ part z)
  held_has z at =
      let k = parts.reach z at in (
        k.0,
        Has-filter (λ d. entered (part d)) k.0 (list_of r v) (own v k.0 k.1)
            (ap entered k.2 ∙ test.yes z at),
        k.2,
      )

  -- the ends of the list are apart, where there are two
  ends : 1 < length order → HasEndsApart part ws
  ends many =
      let x = dart_at 0 (omega (arith, many)) in
      let y = dart_at 1 many in
      let hx = held_has (slice_index order 0) x in
      let hy = held_has (slice_index order 1) y in
      let differ : slice_index order 0 ≢ slice_index order 1 =
      λ e. let same : 0 ≡ 1 = arr.each_once 0 1 (omega (arith, many)) many e in omega (arith, same) in
      turned-HasEndsApart part held found.0 found.1 found.2 found.3 refl hx.0 hy.0 hx.1 hy.1
      (λ e. differ (parts.one_each (slice_index order 0) (slice_index order 1) x y (sym hx.2 ∙ e ∙ hy.2)))

  -- the list of v for the order
  abbrev row : List ℕ
  row = permuted_row r v part entered ws order

  -- it is the list of v for the order
  row-IsPermutedRow : 1 < length order → IsPermutedRow r u v order row
  row-IsPermutedRow many = record {
    number = slice_index numbers;
    part = part;
    entered = entered;
    ws = ws;
    parts = parts;
    test = test;
    turn = (found.0, found.1, refl);
    ends = ends many;
    row_is = refl;
  }

  -- a system of genus zero with this order
  pub HasPermuted-some : HasGenusZero r → (t : System) × HasPermuted r u v order t
  HasPermuted-some flat = ⊎_elim
      (λ (few : length order < 2). (
        r,
        record {
          rotation = is;
          made = unchanged-IsPermutedAt r is u v ltu order arr few;
          genus = flat;
        },
      ))
      (λ (many : 2 ≤ length order). (
        _,
        HasPermuted-made r is u v ltu ltv bond.differ flat order row (values (darts r) (vertex_of r))
            (values r.vertices (permuted_list r u v order row)) arr (row-IsPermutedRow (omega (arith, many))) refl refl,
      ))
      (cases_lt (length order) 2)
