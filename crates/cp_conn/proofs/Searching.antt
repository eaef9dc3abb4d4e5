-- A search through a graph: what one step keeps, and what holds at the end.
use Rattle.std.proofs.Common.{◌≡◌, ℕ, suc, ◌+◌, ◌*◌, ◌<◌, ◌≤◌, true, false, not, List, [], ◌∷◌, ◌++◌, length, get_or, set, ltb, sym, refl, ap, ◌∙◌, subst, inl, inr, ⊎_elim, arith}
use Rattle.std.specs.Prelude.{replicate}
use Rattle.std.specs.List.{Contains}
use Rattle.std.proofs.lemmas.Bool.{cases_eq, cases_lt, lt-ltb, le-ltb, false≢true}
use Rattle.std.proofs.lemmas.List.{get_or-set_same, get_or-set_other, get_or_append_left, get_or_push, get_or_read, get_or-replicate, length-set, length_push, length-replicate}
use Rattle.cp_base.specs.Graphs.{AreWithin}
use Rattle.cp_lists.specs.Count.{without}
use Rattle.cp_orbits.specs.Connected.{Joins}
use Rattle.cp_orbits.specs.Classes.{labels}
use Rattle.cp_lists.proofs.Counting.{count_agree, count_without, without_at, without_other}
use Rattle.cp_orbits.proofs.ClassLabels.{labels-le, labels-keeps, Respects-from}
use Rattle.cp_conn.specs.Darts.{start, finish, IsEntry, AreChained}
use Rattle.cp_conn.specs.Search.{is_unmet, AreMet, AreNear, AreDone, HasGoneOn}
use Rattle.cp_conn.proofs.DartChains.{dart_of, within_pair, within_joined, start_within, finish_within, labels_dart}

-- a vertex without a label was not met
pub unmet_true : (n : ℕ) (least : List ℕ) (x : ℕ) → n ≤ get_or least x 0 → is_unmet n least x ≡ true
unmet_true n least x le = ap not (le-ltb (get_or least x 0) n le)

-- a vertex with a label was met
pub unmet_false : (n : ℕ) (least : List ℕ) (x : ℕ) → get_or least x 0 < n → is_unmet n least x ≡ false
unmet_false n least x lt = ap not (lt-ltb (get_or least x 0) n lt)

-- a vertex more is met
pub HasGoneOn-one : (es : List (ℕ × ℕ)) (n : ℕ) (least queue : List ℕ) (to label : ℕ) → AreMet es n least queue → to < n
    → n ≤ get_or least to 0 → label < n → label ≡ labels es to
    → HasGoneOn es n least queue (set least to label) (queue ++ to ∷ [])
HasGoneOn-one es n least queue to label met lt new low is = record {
  met = record {
    size = length-set least to label ∙ met.size;
    bound = λ x ltx. ⊎_elim (λ e. omega (arith, at x e)) (λ ne. omega (arith, other x ne, met.bound x ltx))
        (cases_eq x to);
    right = λ x ltx m. ⊎_elim (λ e. at x e ∙ is ∙ ap (labels es) (sym e))
        (λ ne. other x ne ∙ met.right x ltx (subst (λ (z : ℕ). z < n) (other x ne) m)) (cases_eq x to);
    queued = λ x ltx m. ⊎_elim
        (λ e. (length queue, omega (arith, length_push queue to), get_or_push queue to 0 (length queue) refl ∙ sym e))
        (λ ne. let h : (k : ℕ) × (k < length queue) × (get_or queue k 0 ≡ x) =
        met.queued x ltx (subst (λ (z : ℕ). z < n) (other x ne) m) in
        (h.0, omega (arith, h.1, length_push queue to), get_or_append_left queue (to ∷ []) 0 h.0 h.1 ∙ h.2))
        (cases_eq x to);
    vertices = λ k ltk. ⊎_elim
        (λ e. subst (λ (z : ℕ). (z < n) × (get_or (set least to label) z 0 < n))
        (sym (get_or_push queue to 0 k (sym e))) (lt, omega (arith, at to refl)))
        (λ ne. subst (λ (z : ℕ). (z < n) × (get_or (set least to label) z 0 < n))
        (sym (get_or_append_left queue (to ∷ []) 0 k (omega (arith, length_push queue to))))
        (old k (met.vertices k (omega (arith, length_push queue to)))))
        (cases_eq k (length queue));
  };
  stays = stays;
  longer_by = omega (arith, length_push queue to);
  front = λ k ltk. get_or_append_left queue (to ∷ []) 0 k ltk;
  same_places = omega (
    arith,
    length_push queue to,
    count_without n (is_unmet n least) to lt
        (unmet_true n least to new),
    count_agree n (without (is_unmet n least) to)
        (is_unmet n (set least to label)) fewer,
  );
}
  where
    -- the vertex that is met has the label
    at : (x : ℕ) → x ≡ to → get_or (set least to label) x 0 ≡ label
    at x e = ap (λ (k : ℕ). get_or (set least to label) k 0) e
        ∙ get_or-set_same least to label 0 (omega (arith, met.size))

    -- the labels of other vertices stay
    other : (x : ℕ) → (x ≡ to → ⊥) → get_or (set least to label) x 0 ≡ get_or least x 0
    other x ne = get_or-set_other least to x label 0 ne

    -- a vertex that was met stays met
    stays : (x : ℕ) → x < n → get_or least x 0 < n → get_or (set least to label) x 0 < n
    stays x ltx m = ⊎_elim (λ e. omega (arith, at x e)) (λ ne. omega (arith, other x ne)) (cases_eq x to)

    -- a vertex of the queue stays one that was met
    old : (k : ℕ) → (get_or queue k 0 < n) × (get_or least (get_or queue k 0) 0 < n)
        → (get_or queue k 0 < n) × (get_or (set least to label) (get_or queue k 0) 0 < n)
    old k h = (h.0, stays (get_or queue k 0) h.0 h.1)

    -- the vertices that are not met are those before without the new one
    fewer : (x : ℕ) → x < n → without (is_unmet n least) to x ≡ is_unmet n (set least to label) x
    fewer x ltx = ⊎_elim
        (λ e. without_at (is_unmet n least) to x e ∙ sym (unmet_false n (set least to label) x (omega (arith, at x e))))
        (λ ne. without_other (is_unmet n least) to x ne ∙ ap (λ (z : ℕ). not (ltb z n)) (sym (other x ne)))
        (cases_eq x to)

-- a search that stays as it is goes on
pub HasGoneOn-same : (es : List (ℕ × ℕ)) (n : ℕ) (least queue : List ℕ) → AreMet es n least queue
    → HasGoneOn es n least queue least queue
HasGoneOn-same es n least queue met = record {
  met = met;
  stays = λ x lt m. m;
  longer_by = omega arith;
  front = λ k lt. refl;
  same_places = refl;
}

-- a search that goes on twice goes on
pub HasGoneOn-trans : (es : List (ℕ × ℕ)) (n : ℕ) (a p b q c r : List ℕ) → HasGoneOn es n a p b q
    → HasGoneOn es n b q c r → HasGoneOn es n a p c r
HasGoneOn-trans es n a p b q c r one two = record {
  met = two.met;
  stays = λ x lt m. two.stays x lt (one.stays x lt m);
  longer_by = omega (arith, one.longer_by, two.longer_by);
  front = λ k lt. two.front k (omega (arith, one.longer_by)) ∙ one.front k lt;
  same_places = two.same_places ∙ one.same_places;
}

-- neighbours that were met stay met
pub AreNear-stays : (es : List (ℕ × ℕ)) (n : ℕ) (a b : List ℕ) (x : ℕ) → AreWithin n es
    → ((y : ℕ) → y < n → get_or a y 0 < n → get_or b y 0 < n) → AreNear es n a x → AreNear es n b x
AreNear-stays es n a b x w stays near e y c j = stays y (within_joined n es e x y w c j) (near e y c j)

-- where the search goes on, the vertices whose neighbours were all met stay so
pub AreDone-stays : (es : List (ℕ × ℕ)) (n : ℕ) (a p b q : List ℕ) (done : ℕ) → AreWithin n es → HasGoneOn es n a p b q
    → done ≤ length p → AreDone es n a p done → AreDone es n b q done
AreDone-stays es n a p b q done w goes le all k lt =
    subst (AreNear es n b) (sym (goes.front k (omega arith)))
    (AreNear-stays es n a b (get_or p k 0) w goes.stays (all k lt))

-- one vertex more of the queue is done where its neighbours were met
pub AreDone-more : (es : List (ℕ × ℕ)) (n : ℕ) (a p : List ℕ) (done x : ℕ) → AreDone es n a p done → get_or p done 0 ≡ x
    → AreNear es n a x → AreDone es n a p (done + 1)
AreDone-more es n a p done x all at near k lt =
    ⊎_elim (λ e. subst (AreNear es n a) (sym (ap (λ (j : ℕ). get_or p j 0) e ∙ at)) near) (λ ne. all k (omega arith))
    (cases_eq k done)

-- within the darts of a vertex: the entry is a dart of it or 0, and the ends of the darts from the entry on were met
pub record Meeting (es : List (ℕ × ℕ)) (n : ℕ) (least queue more longer : List ℕ) (vertex entry : ℕ) : Type 0 where
  pub goes : HasGoneOn es n least queue more longer
  pub entry_within : entry ≤ 2 * length es
  pub starts : (d : ℕ) → suc d ≡ entry → start es d ≡ vertex
  pub higher : (d : ℕ) → entry ≤ d → d < 2 * length es → start es d ≡ vertex → get_or more (finish es d) 0 < n

-- before the first dart of a vertex, its entry is the highest of its darts
pub Meeting-start : (es : List (ℕ × ℕ)) (n : ℕ) (least queue entries lower : List ℕ) (vertex : ℕ)
    → AreMet es n least queue → AreChained n es (2 * length es) entries lower → vertex < n
    → Meeting es n least queue least queue vertex (get_or entries vertex 0)
Meeting-start es n least queue entries lower vertex met ch lt = record {
  goes = HasGoneOn-same es n least queue met;
  entry_within = (ch.entry_of vertex lt).below;
  starts = (ch.entry_of vertex lt).starts;
  higher = λ d le l e. absurd ((ch.entry_of vertex lt).highest d le l e);
}

-- after a dart whose end was met, the entry is the next lower dart
pub Meeting-more : (es : List (ℕ × ℕ)) (n : ℕ) (least queue a p b q entries lower : List ℕ) (vertex entry d : ℕ)
    → AreWithin n es → Meeting es n least queue a p vertex entry → suc d ≡ entry
    → AreChained n es (2 * length es) entries lower → HasGoneOn es n a p b q → get_or b (finish es d) 0 < n
    → Meeting es n least queue b q vertex (get_or lower d 0)
Meeting-more es n least queue a p b q entries lower vertex entry d w m is ch goes met = record {
  goes = HasGoneOn-trans es n least queue a p b q m.goes goes;
  entry_within = omega (arith, link.below, m.entry_within);
  starts = λ k e. link.starts k e ∙ m.starts d is;
  higher = λ k le lt e. ⊎_elim (λ under. lower_ones k le under e) (λ above. upper_ones k above lt e)
      (cases_lt k (suc d));
}
  where
    -- the next lower dart that starts where d does
    link : IsEntry es (start es d) d (get_or lower d 0)
    link = ch.lower_of d (omega (arith, m.entry_within))

    -- the ends of the darts of the vertex from the one after d on were met
    upper_ones : (k : ℕ) → suc d ≤ k → k < 2 * length es → start es k ≡ vertex → get_or b (finish es k) 0 < n
    upper_ones k above lt e = goes.stays (finish es k) (finish_within n es k w lt) (m.higher k (omega arith) lt e)

    -- the ends of its darts up to d and above the next lower one were met
    lower_ones : (k : ℕ) → get_or lower d 0 ≤ k → k < suc d → start es k ≡ vertex → get_or b (finish es k) 0 < n
    lower_ones k le under e = ⊎_elim (λ f. subst (λ (j : ℕ). get_or b (finish es j) 0 < n) (sym f) met)
        (λ nf. absurd (link.highest k le (omega arith) (e ∙ sym (m.starts d is)))) (cases_eq k d)

-- after the last dart all neighbours were met
pub Meeting-end : (es : List (ℕ × ℕ)) (n : ℕ) (least queue a p : List ℕ) (vertex : ℕ)
    → Meeting es n least queue a p vertex 0 → AreNear es n a vertex
Meeting-end es n least queue a p vertex m e y c j =
    let d : (d : ℕ) × (d < 2 * length es) × (start es d ≡ vertex) × (finish es d ≡ y) = dart_of es e vertex y c j in
    subst (λ (z : ℕ). get_or a z 0 < n) d.3 (m.higher d.0 (omega arith) d.1 d.2)

-- where all is done, a neighbour of a vertex that was met was met
met_along : (es : List (ℕ × ℕ)) (n : ℕ) (least queue : List ℕ) (e : ℕ × ℕ) (x y : ℕ) → AreMet es n least queue
    → AreDone es n least queue (length queue) → Contains es e → Joins e x y → x < n → get_or least x 0 < n
    → get_or least y 0 < n
met_along es n least queue e x y met done c j lt m =
    let at : (k : ℕ) × (k < length queue) × (get_or queue k 0 ≡ x) = met.queued x lt m in
    done at.0 at.1 e y c (subst (λ (z : ℕ). Joins e z y) (sym at.2) j)

-- where all is done, a vertex was met if the least of its component was
unmet_label : (es : List (ℕ × ℕ)) (n : ℕ) (least queue : List ℕ) (x : ℕ) → AreWithin n es → AreMet es n least queue
    → AreDone es n least queue (length queue) → is_unmet n least (labels es x) ≡ is_unmet n least x
unmet_label es n least queue x w met done =
    labels-keeps (is_unmet n least) es (Respects-from (is_unmet n least) es both) x
  where
    -- either both ends of an edge were met or neither was
    both : (e : ℕ × ℕ) → Contains es e → is_unmet n least e.0 ≡ is_unmet n least e.1
    both e c =
        let ends : (e.0 < n) × (e.1 < n) = within_pair n es e w c in
        ⊎_elim
        (λ m. unmet_false n least e.0 m
        ∙ sym (unmet_false n least e.1
        (met_along es n least queue e e.0 e.1 met done c (inl (refl, refl)) ends.0 m)))
        (λ le. ⊎_elim
        (λ m. absurd (let back : get_or least e.0 0 < n =
        met_along es n least queue e e.1 e.0 met done c (inr (refl, refl)) ends.1 m in omega arith))
        (λ ge. unmet_true n least e.0 le ∙ sym (unmet_true n least e.1 ge))
        (cases_lt (get_or least e.1 0) n))
        (cases_lt (get_or least e.0 0) n)

-- where all is done, a vertex that was not met, while all lower ones were, is the least of its component
pub root_label : (es : List (ℕ × ℕ)) (n : ℕ) (least queue : List ℕ) (v : ℕ) → AreWithin n es → AreMet es n least queue
    → AreDone es n least queue (length queue) → ((x : ℕ) → x < v → get_or least x 0 < n) → n ≤ get_or least v 0
    → v ≡ labels es v
root_label es n least queue v w met done lower new =
    ⊎_elim
    (λ lt. absurd (false≢true (sym (unmet_false n least (labels es v) (lower (labels es v) lt))
    ∙ unmet_label es n least queue v w met done ∙ unmet_true n least v new)))
    (λ le. omega (arith, labels-le es v))
    (cases_lt (labels es v) v)

-- at the start nothing was met
pub AreMet-none : (es : List (ℕ × ℕ)) (n : ℕ) → AreMet es n (replicate n n) []
AreMet-none es n = record {
  size = length-replicate n n;
  bound = λ x lt. omega (arith, get_or-replicate {A = ℕ} n x n 0 lt);
  right = λ x lt m. absurd (omega (arith, get_or-replicate {A = ℕ} n x n 0 lt));
  queued = λ x lt m. absurd (omega (arith, get_or-replicate {A = ℕ} n x n 0 lt));
  vertices = λ k lt. absurd (omega arith);
}

-- following a dart to a vertex that was not met
pub follow_step : (es : List (ℕ × ℕ)) (n : ℕ) (least queue : List ℕ) (dart from to old label : ℕ) (longer : List ℕ)
    → AreWithin n es → AreMet es n least queue → dart < 2 * length es → get_or least (start es dart) 0 < n
    → from ≡ start es dart → to ≡ finish es dart
    → old ≡ get_or least to old → n ≤ old → label ≡ get_or least from label → longer ≡ queue ++ to ∷ []
    → HasGoneOn es n least queue (set least to label) longer
follow_step es n least queue dart from to old label longer w met lt begun from_is to_is old_is new label_is longer_is =
    subst (HasGoneOn es n least queue (set least to label)) (sym longer_is)
    (HasGoneOn-one es n least queue to label met to_lt (omega (arith, read_old))
    (omega (arith, read_label, from_met)) label_of)
  where
    -- the dart ends at a vertex
    to_lt : to < n
    to_lt = subst (λ (x : ℕ). x < n) (sym to_is) (finish_within n es dart w lt)

    -- the dart starts at a vertex
    from_lt : from < n
    from_lt = subst (λ (x : ℕ). x < n) (sym from_is) (start_within n es dart w lt)

    -- the vertex that the dart starts at was met
    from_met : get_or least from 0 < n
    from_met = subst (λ (x : ℕ). get_or least x 0 < n) (sym from_is) begun

    -- what was read is the label of the end
    read_old : old ≡ get_or least to 0
    read_old = get_or_read least to old (omega (arith, met.size, to_lt)) old_is 0

    -- what was read is the label of the start
    read_label : label ≡ get_or least from 0
    read_label = get_or_read least from label (omega (arith, met.size, from_lt)) label_is 0

    -- the label is that of the component of the end
    label_of : label ≡ labels es to
    label_of = read_label ∙ met.right from from_lt from_met ∙ ap (labels es) from_is ∙ labels_dart es dart lt
        ∙ ap (labels es) (sym to_is)

-- a search begins at a vertex that was not met
pub visit_step : (es : List (ℕ × ℕ)) (n : ℕ) (least queue : List ℕ) (v old : ℕ) (longer : List ℕ) → AreWithin n es
    → AreMet es n least queue → AreDone es n least queue (length queue) → ((x : ℕ) → x < v → get_or least x 0 < n)
    → v < n
    → old ≡ get_or least v old → n ≤ old → longer ≡ queue ++ v ∷ [] → HasGoneOn es n least queue (set least v v) longer
visit_step es n least queue v old longer w met done lower lt old_is new longer_is =
    subst (HasGoneOn es n least queue (set least v v)) (sym longer_is)
    (HasGoneOn-one es n least queue v v met lt unmet lt (root_label es n least queue v w met done lower unmet))
  where
    -- the vertex was not met
    unmet : n ≤ get_or least v 0
    unmet = omega (arith, get_or_read least v old (omega (arith, met.size)) old_is 0)

-- where a search from a vertex ends, this vertex and the lower ones were met
pub visit_end : (es : List (ℕ × ℕ)) (n : ℕ) (least queue : List ℕ) (v : ℕ) (longer a p : List ℕ)
    → AreMet es n least queue → ((x : ℕ) → x < v → get_or least x 0 < n) → v < n
    → HasGoneOn es n least queue (set least v v) longer → HasGoneOn es n (set least v v) longer a p → (x : ℕ)
    → x < v + 1 → get_or a x 0 < n
visit_end es n least queue v longer a p met lower lt one two x ltx =
    two.stays x (omega arith) (⊎_elim
    (λ e. omega (
      arith,
      ap (λ (k : ℕ). get_or (set least v v) k 0) e,
      get_or-set_same least v v 0
          (omega (arith, met.size)),
    )) (λ ne. one.stays x (omega arith) (lower x (omega arith))) (cases_eq x v))

-- the neighbours of one more vertex of the queue were met
pub run_step : (es : List (ℕ × ℕ)) (n k : ℕ) (least queue a p b q : List ℕ) (done vertex : ℕ) → k ≡ n → AreWithin n es
    → HasGoneOn es n least queue a p → done < length p → AreDone es n a p done → vertex ≡ get_or p done vertex
    → HasGoneOn es k a p b q → AreNear es k b vertex
    → (HasGoneOn es n least queue b q) × (done + 1 ≤ length q) × AreDone es n b q (done + 1)
run_step es n k least queue a p b q done vertex same w goes lt all vertex_is more near =
    let goes_on : HasGoneOn es n a p b q = subst (λ (m : ℕ). HasGoneOn es m a p b q) same more in (
      HasGoneOn-trans es n least queue a p b q goes goes_on,
      omega (arith, goes_on.longer_by),
      AreDone-more es n b q done vertex (AreDone-stays es n a p b q done w goes_on (omega arith) all)
          (goes_on.front done lt ∙ sym (get_or_read p done vertex lt vertex_is 0))
          (subst (λ (m : ℕ). AreNear es m b vertex) same near),
    )
