-- Each segment of an edge lies in one cluster: the walks outward from the homes of both ends meet.
use Rattle.std.proofs.Common.{◌≡◌, ℕ, zero, suc, ◌+◌, ◌-◌, ◌<◌, ◌≤◌, Bool, true, false, List, [], ◌∷◌, ◌++◌, reverse, map, length, slice_index, append_assoc, sym, refl, ap, ◌∙◌, subst, inl, inr, ⊎_elim, arith}
use Rattle.std.specs.Prelude.{not, slice_index_or}
use Rattle.std.proofs.lemmas.List.{append-nil, reverse-append}
use Rattle.std.proofs.lemmas.Bool.{cases_Bool, cases_order, cond-false, cond-true, false≢true}
use Rattle.cp_lists.specs.Count.{Exactly}
use Rattle.cp_lists.specs.CyclicLists.{Has}
use Rattle.cp_lists.proofs.DistinctLists.{Exactly-Has, Has-append_left}
use Rattle.cp_cgraph.specs.Clustered.{Clustered, IsClustered, clusters, edges, home, parent, source, target}
use Rattle.cp_cgraph.specs.Crossings.{contains, crossings, leaves}
use Rattle.cp_cgraph.proofs.Ancestors.{IsLower, IsLower-clustered, encloses, encloses_higher}
use Rattle.cp_cgraph.proofs.Crossing.{IsBetween, IsBetween-end, IsBetween-entered, IsBetween-left, IsBetween-start, crossings-Exactly}
use Rattle.cp_skel.specs.SegmentLevels.{Linked, ahead, behind}

-- a way outward from a through the listed clusters to b
abbrev Up : List ℕ → ℕ → List ℕ → ℕ → Type 0
Up ps a [] b = a ≡ b
Up ps a (c ∷ cs) b = (a ≡ c) × Up ps (slice_index ps (c - 1)) cs b

-- none of the clusters encloses a
abbrev Off : List ℕ → ℕ → List ℕ → Type 0
Off ps a [] = Unit {0}
Off ps a (c ∷ cs) = (encloses ps c a ≡ false) × Off ps a cs

-- a way goes one step further outward
Up-more : (ps : List ℕ) (a : ℕ) (cs : List ℕ) (b : ℕ) → Up ps a cs b → Up ps a (cs ++ b ∷ []) (slice_index ps (b - 1))
Up-more ps a [] b up = (up, refl)
Up-more ps a (c ∷ cs) b up = (up.0, Up-more ps (slice_index ps (c - 1)) cs b up.1)

-- one more cluster does not enclose a
Off-more : (ps : List ℕ) (a : ℕ) (cs : List ℕ) (b : ℕ) → Off ps a cs → encloses ps b a ≡ false → Off ps a (cs ++ b ∷ [])
Off-more ps a [] b off more = (more, tt)
Off-more ps a (c ∷ cs) b off more = (off.0, Off-more ps a cs b off.1 more)

-- no item encloses a
Off-item : (ps : List ℕ) (a : ℕ) (cs : List ℕ) (d : ℕ) → Off ps a cs → Has d cs → encloses ps d a ≡ false
Off-item ps a [] d off h = absurd h
Off-item ps a (c ∷ cs) d off h =
    ⊎_elim (λ e. ap (λ (x : ℕ). encloses ps x a) (sym e) ∙ off.0) (λ k. Off-item ps a cs d off.1 k) h

-- the ways outward from the homes of both ends of an edge have come to outer and inner
record IsWay (g : Clustered) (e outer inner : ℕ) (left entered : List ℕ) : Type 0 where
  pub between : IsBetween g e outer inner left entered
  pub from_source : Up g.parents (home g (source g e)) left outer
  pub from_target : Up g.parents (home g (target g e)) entered inner
  pub off_target : Off g.parents (home g (target g e)) left
  pub off_source : Off g.parents (home g (source g e)) entered

-- they have met
record AreMet (g : Clustered) (e : ℕ) : Type 0 where
  pub left : List ℕ
  pub entered : List ℕ
  pub top : ℕ
  pub whole : left ++ reverse entered ≡ crossings g e
  pub way : IsWay g e top top left entered

-- the ways of an edge of a clustered graph
module _ (g : Clustered) (is : IsClustered g) (e : ℕ) where
  -- clusters lie in clusters of a lower number
  low : IsLower g.parents
  low = IsLower-clustered g is

  -- the way from the source goes on
  IsWay-left : (outer inner : ℕ) (left entered : List ℕ) → IsWay g e outer inner left entered → inner < outer
      → IsWay g e (parent g outer) inner (left ++ outer ∷ []) entered
  IsWay-left outer inner left entered way less = record {
    between = IsBetween-left g is e outer inner left entered way.between less;
    from_source = Up-more g.parents (home g (source g e)) left outer way.from_source;
    from_target = way.from_target;
    off_target = Off-more g.parents (home g (target g e)) left outer way.off_target
        (way.between.walked.round_second outer (omega arith) ∙ encloses_higher g.parents low outer inner less);
    off_source = way.off_source;
  }

  -- the way from the target goes on
  IsWay-entered : (outer inner : ℕ) (left entered : List ℕ) → IsWay g e outer inner left entered → outer < inner
      → IsWay g e outer (parent g inner) left (entered ++ inner ∷ [])
  IsWay-entered outer inner left entered way less = record {
    between = IsBetween-entered g is e outer inner left entered way.between less;
    from_source = way.from_source;
    from_target = Up-more g.parents (home g (target g e)) entered inner way.from_target;
    off_target = way.off_target;
    off_source = Off-more g.parents (home g (source g e)) entered inner way.off_source
        (way.between.walked.round_first inner (omega arith) ∙ encloses_higher g.parents low inner outer less);
  }

  -- where both stand at one cluster, they have met
  met : (outer inner : ℕ) (left entered : List ℕ) → IsWay g e outer inner left entered → outer ≡ inner → AreMet g e
  met outer inner left entered way same = record {
    left = left;
    entered = entered;
    top = outer;
    whole = IsBetween-end g is e outer inner left entered way.between same;
    way = subst (λ (x : ℕ). IsWay g e outer x left entered) (sym same) way;
  }

  -- they meet
  meet : (n outer inner : ℕ) (left entered : List ℕ) → outer + inner ≤ n → IsWay g e outer inner left entered
      → AreMet g e
  meet zero outer inner left entered le way = met outer inner left entered way (omega arith)
  meet (suc n) outer inner left entered le way = ⊎_elim
      (λ same. met outer inner left entered way same)
      (⊎_elim
      (λ less. let lower : parent g inner < inner = low.lower inner (omega arith) in
      meet n outer (parent g inner) left (entered ++ inner ∷ []) (omega arith)
      (IsWay-entered outer inner left entered way less))
      (λ more. let lower : parent g outer < outer = low.lower outer (omega arith) in
      meet n (parent g outer) inner (left ++ outer ∷ []) entered (omega arith)
      (IsWay-left outer inner left entered way more)))
      (cases_order outer inner)

  -- each edge has such ways
  edge-AreMet : e < edges g → AreMet g e
  edge-AreMet lt =
      let s : ℕ = home g (source g e) in
      let t : ℕ = home g (target g e) in
      meet (s + t) s t [] [] (omega arith) record {
        between = IsBetween-start g e (is.home_is_cluster (source g e) (is.source_is_node e lt))
            (is.home_is_cluster (target g e) (is.target_is_node e lt));
        from_source = refl;
        from_target = refl;
        off_target = tt;
        off_source = tt;
      }

  -- along the way from the source each segment lies in one cluster
  Linked-left : (a m b : ℕ) (cs rest : List ℕ) → Up g.parents a cs m
      → ((c : ℕ) → Has c cs → contains g c (source g e) ≡ true) → Linked g e m rest b → Linked g e a (cs ++ rest) b
  Linked-left a m b [] rest up inner linked = subst (λ (x : ℕ). Linked g e x rest b) (sym up) linked
  Linked-left a m b (c ∷ cs) rest up inner linked =
      let one : contains g c (source g e) ≡ true = inner c (inl refl) in (
        up.0 ∙ sym (cond-true (contains g c (source g e)) c (parent g c) one),
        subst (λ (x : ℕ). Linked g e x (cs ++ rest) b)
            (sym (cond-true (contains g c (source g e)) (parent g c) c one))
            (Linked-left (parent g c) m b cs rest up.1 (λ d h. inner d (inr h)) linked),
      )

  -- and along the way from the target, backward
  Linked-entered : (t m b : ℕ) (cs rest : List ℕ) → Up g.parents t cs m
      → ((c : ℕ) → Has c cs → contains g c (source g e) ≡ false) → Linked g e t rest b
      → Linked g e m (reverse cs ++ rest) b
  Linked-entered t m b [] rest up outer linked = subst (λ (x : ℕ). Linked g e x rest b) up linked
  Linked-entered t m b (c ∷ cs) rest up outer linked =
      let one : contains g c (source g e) ≡ false = outer c (inl refl) in
      let whole : reverse (c ∷ cs) ++ rest ≡ reverse cs ++ c ∷ rest =
      ap (λ (xs : List ℕ). xs ++ rest) (reverse-append (c ∷ []) cs) ∙ append_assoc (reverse cs) (c ∷ []) rest in
      subst (λ (xs : List ℕ). Linked g e m xs b) (sym whole)
      (Linked-entered (parent g c) m b cs (c ∷ rest) up.1 (λ d h. outer d (inr h)) (
        sym (cond-false (contains g c (source g e)) c (parent g c) one),
        subst (λ (x : ℕ). Linked g e x rest b)
            (up.0 ∙ sym (cond-false (contains g c (source g e)) (parent g c) c one)) linked,
      ))

  -- a cluster that the edge leaves contains its source where it does not contain its target
  contains_source : (c : ℕ) → leaves g c e ≡ true → contains g c (target g e) ≡ false
      → contains g c (source g e) ≡ true
  contains_source c left off =
      let s : Bool = contains g c (source g e) in
      let t : Bool = contains g c (target g e) in
      ⊎_elim (λ inner. inner) (λ outer. absurd (false≢true (sym off ∙ sym (cond-false s (not t) t outer) ∙ left)))
      (cases_Bool s)

  -- each segment lies in one cluster
  pub edge_linked : e < edges g → Linked g e (home g (source g e)) (crossings g e) (home g (target g e))
  edge_linked lt =
      let m : AreMet g e = edge-AreMet lt in
      let s : ℕ = home g (source g e) in
      let t : ℕ = home g (target g e) in
      let exact : Exactly (clusters g) (λ c. leaves g c e) (crossings g e) = crossings-Exactly g is e lt in
      let left : (c : ℕ) → Has c m.left → leaves g c e ≡ true =
      λ c h. ((Exactly-Has (clusters g) (λ x. leaves g x e) (crossings g e) exact c).0
      (subst (Has c) m.whole (Has-append_left c m.left (reverse m.entered) h))).1 in
      let back : Linked g e m.top (reverse m.entered ++ []) t =
      Linked-entered t m.top t m.entered [] m.way.from_target
      (λ c h. Off-item g.parents s m.entered c m.way.off_source h) refl in
      subst (λ (xs : List ℕ). Linked g e s xs t)
      (ap (λ (xs : List ℕ). m.left ++ xs) (append-nil (reverse m.entered)) ∙ m.whole)
      (Linked-left s m.top t m.left (reverse m.entered ++ []) m.way.from_source
      (λ c h. contains_source c (left c h) (Off-item g.parents t m.left c m.way.off_target h)) back)

-- the cluster of the segment before a crossing, by its place
pub linked_at : (g : Clustered) (e a b : ℕ) (cs : List ℕ) (i : ℕ) → Linked g e a cs b → i < length cs
    → slice_index_or (a ∷ map (behind g e) cs) i 0 ≡ ahead g e (slice_index cs i)
linked_at g e a b [] i linked lt = absurd (omega arith)
linked_at g e a b (c ∷ cs) zero linked lt = linked.0
linked_at g e a b (c ∷ cs) (suc i) linked lt = linked_at g e (behind g e c) b cs i linked.1 (omega arith)

-- the cluster of the last segment
pub linked_end : (g : Clustered) (e a b : ℕ) (cs : List ℕ) → Linked g e a cs b
    → slice_index_or (a ∷ map (behind g e) cs) (length cs) 0 ≡ b
linked_end g e a b [] linked = linked
linked_end g e a b (c ∷ cs) linked = linked_end g e (behind g e c) b cs linked.1
