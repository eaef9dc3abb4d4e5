-- Classes of lists, each connected inside, made one vertex each: what is flat stays flat.
use Rattle.std.proofs.Common.{◌≡◌, ℕ, true, List, [], ◌∷◌, ◌++◌, append_assoc, sym, refl, ap, ◌∙◌, subst, ⊎_elim, suc, ◌*◌, Bool, arith, not, length, ◌&&◌, map, ap₂, ◌↔◌}
use Rattle.std.proofs.lemmas.Bool.{false≢true, cases_Bool}
use Rattle.std.proofs.lemmas.List.{append-nil}
use Rattle.std.specs.List.{filter}
use Rattle.cp_lists.specs.CyclicLists.{Distinct, Has, Lacks}
use Rattle.cp_lists.specs.Rows.{flat}
use Rattle.cp_lists.proofs.DistinctLists.{Distinct-apart, Distinct-apart_right, Distinct-append_left, Distinct-append_right, Has-append_left, Has-append_right, Lacks-from}
use Rattle.cp_lists.proofs.FilteredLists.{Has-filter, filter-Has, filter_agree, filter_all}
use Rattle.cp_lists.proofs.FlatLists.{flat-append}
use Rattle.cp_faces.specs.Twins.{twin}
use Rattle.cp_maps.specs.Classes.{AllGrow, AreClassLists, IsClassList, class_lists}
use Rattle.cp_maps.specs.Genus.{Becomes, CanBeFlat, IsFlat}
use Rattle.cp_maps.specs.Gluings.{Grows, HoldsLeaving}
use Rattle.cp_maps.specs.Maps.{IsMapOf, has}
use Rattle.cp_maps.proofs.CollapsedVertices.{collapsed-Becomes}
use Rattle.cp_maps.proofs.Genus.{SameGenus-IsFlat}
use Rattle.cp_maps.proofs.KeptDarts.{kept_darts-CanBeFlat}
use Rattle.cp_maps.proofs.ListFacts.{has_no, has_yes}
use Rattle.cp_maps.proofs.MapLists.{IsMapOf-among, IsMapOf-front}

-- a dart that leaves the darts of a list is kept
abbrev leaves : List ℕ → ℕ → Bool
leaves all d = not (has d all && has (twin d) all)

-- a dart of the list whose twin is not in it is kept
leaves_yes : (all : List ℕ) (d : ℕ) → Lacks (twin d) all → leaves all d ≡ true
leaves_yes all d l =
    ap not (⊎_elim (λ t. ap₂ (λ a b. a && b) t (has_no (twin d) all l)) (λ u. ap (λ a. a && has (twin d) all) u)
    (cases_Bool (has d all)))

-- and so is a dart outside
leaves_out : (all : List ℕ) (d : ℕ) → Lacks d all → leaves all d ≡ true
leaves_out all d l = ap not (ap (λ a. a && has (twin d) all) (has_no d all l))

-- a dart of the list that is kept has its twin outside
leaves_lacks : (all : List ℕ) (d : ℕ) → Has d all → leaves all d ≡ true → Lacks (twin d) all
leaves_lacks all d h t =
    Lacks-from (twin d) all (λ k. false≢true
    (sym (ap not (ap₂ (λ a b. a && b) (has_yes d all h) (has_yes (twin d) all k))) ∙ t))

-- of lists outside all is kept
rows_kept : (all : List ℕ) (rows : List (List ℕ)) → ((d : ℕ) → Has d (flat rows) → Lacks d all)
    → map (filter (leaves all)) rows ≡ rows
rows_kept all [] far = refl
rows_kept all (xs ∷ rows) far =
    ap₂ (λ ys zs. ys ∷ zs) (filter_all (leaves all) xs
    (λ d h. leaves_out all d (far d (Has-append_left d xs (flat rows) h))))
    (rows_kept all rows (λ d h. far d (Has-append_right d xs (flat rows) h)))

-- the loops of a vertex that is a class taken out
without_loops : (e : ℕ) (f : ℕ → ℕ) (zs all : List ℕ) (rows : List (List ℕ)) → IsMapOf (2 * e) f (zs ∷ rows)
    → ((d : ℕ) → Has d (flat rows) → Lacks d all) → IsFlat e f → CanBeFlat e (filter (leaves all) zs ∷ rows)
without_loops e f zs all rows is far z =
    subst (λ xss. CanBeFlat e (filter (leaves all) zs ∷ xss)) (rows_kept all rows far)
    (kept_darts-CanBeFlat e f (zs ∷ rows) is z (leaves all))

-- what is kept of a list that holds all darts that leave
leaving_kept : (zs all : List ℕ) (d : ℕ) → HoldsLeaving zs all
    → Has d (filter (leaves all) zs) ↔ (Has d all × Lacks (twin d) all)
leaving_kept zs all d holds = (
  λ h. let w = filter-Has (leaves all) d zs h in (holds.within d w.0, leaves_lacks all d (holds.within d w.0) w.1),
  λ w. Has-filter (leaves all) d zs (holds.outward d w.0 w.1) (leaves_yes all d w.1),
)

-- a class of lists of a flat map can be made one vertex without loops
pub collapsed_class-CanBeFlat : (e : ℕ) (f : ℕ → ℕ) (zs : List ℕ) (group rows : List (List ℕ))
    → IsMapOf (2 * e) f (zs ∷ (group ++ rows)) → Grows zs group → IsFlat e f
    → (ws : List ℕ) × CanBeFlat e (ws ∷ rows) × IsClassList (zs, group) ws
collapsed_class-CanBeFlat e f zs [] rows is grows z =
    let all : List ℕ = zs ++ [] in
    let same : all ≡ zs = append-nil zs in (
      filter (leaves all) zs,
      without_loops e f zs all rows is
          (λ d h. subst (Lacks d) (sym same) (Distinct-apart_right d zs (flat rows) is.once h)) z,
      record {
        leaving =
            λ d. leaving_kept zs all d (record {
              within = λ c h. subst (Has c) (sym same) h;
              outward =
                  λ c h l. subst (Has c) same h;
            });
        single =
            λ e'. filter_agree (leaves all) (λ d. not (has (twin d) zs)) zs
            (λ d h. ap not (ap (λ ys. has d ys && has (twin d) ys) same
            ∙ ap (λ b. b && has (twin d) zs) (has_yes d zs h)
            ∙ ⊎_elim (λ t. ap (λ b. true && b) t ∙ sym t) (λ u. ap (λ b. true && b) u ∙ sym u)
            (cases_Bool (has (twin d) zs))));
      },
    )
collapsed_class-CanBeFlat e f zs (ys ∷ group) rows is grows z =
    let all : List ℕ = zs ++ flat (ys ∷ group) in
    let once : Distinct (zs ++ (flat (ys ∷ group) ++ flat rows)) =
    subst (λ us. Distinct (zs ++ us)) (flat-append (ys ∷ group) rows) is.once in
    let whole : Distinct (all ++ flat rows) =
    subst Distinct (sym (append_assoc zs (flat (ys ∷ group)) (flat rows))) once in
    let inner : Distinct all = Distinct-append_left all (flat rows) whole in
    let c : (ws : List ℕ) × Becomes e f (ws ∷ rows) × HoldsLeaving ws all =
    collapsed-Becomes e f zs zs (ys ∷ group) rows is
    (record { within = λ d h. h; outward = λ d h l. h }) (λ d h. Distinct-apart d zs (flat (ys ∷ group)) inner h)
    (Distinct-append_right zs (flat (ys ∷ group)) inner) grows in (
      filter (leaves all) c.0,
      without_loops e c.1.0 c.0 all rows c.1.1 (λ d h. Distinct-apart_right d all (flat rows) whole h)
          (SameGenus-IsFlat e f c.1.0 c.1.2 z),
      record {
        leaving = λ d. leaving_kept c.0 all d c.2;
        single = λ same. let size : suc (length group) ≡ 0 = ap length same in absurd (omega arith);
      },
    )

-- all classes made one vertex each: the edges that leave a class are kept, all others go, and what is flat stays flat
pub collapsed_classes-CanBeFlat : (e : ℕ) (f : ℕ → ℕ) (classes : List (List ℕ × List (List ℕ))) (rows : List (List ℕ))
    → IsMapOf (2 * e) f (class_lists classes ++ rows) → AllGrow classes → IsFlat e f
    → (lists : List (List ℕ)) × CanBeFlat e (lists ++ rows) × AreClassLists classes lists
collapsed_classes-CanBeFlat e f [] rows is grow z = ([], (f, is, z), tt)
collapsed_classes-CanBeFlat e f (c ∷ classes) rows is grow z =
    let one : (ws : List ℕ) × CanBeFlat e (ws ∷ (class_lists classes ++ rows)) × IsClassList (c.0, c.1) ws =
    collapsed_class-CanBeFlat e f c.0 c.1 (class_lists classes ++ rows)
    (subst (λ xss. IsMapOf (2 * e) f (c.0 ∷ xss)) (append_assoc c.1 (class_lists classes) rows) is) grow.0 z in
    let rest : (lists : List (List ℕ)) × CanBeFlat e (lists ++ one.0 ∷ rows) × AreClassLists classes lists =
    collapsed_classes-CanBeFlat e one.1.0 classes (one.0 ∷ rows)
    (IsMapOf-among (2 * e) one.1.0 one.0 (class_lists classes) rows one.1.1) grow.1 one.1.2 in (
      one.0 ∷ rest.0,
      (rest.1.0, IsMapOf-front (2 * e) rest.1.0 one.0 rest.0 rows rest.1.1, rest.1.2),
      (one.2, rest.2),
    )
