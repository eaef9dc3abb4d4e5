-- Paths of darts, and simple cycles that they close.
use Rattle.std.proofs.Common.{◌≡◌, ℕ, zero, suc, ◌*◌, ◌/◌, ◌<◌, ◌⊎◌, Bool, true, List, [], ◌∷◌, ◌++◌, length, get_or, sym, refl, ap, ◌∙◌, subst, inl, inr, ⊎_elim, arith}
use Rattle.std.specs.List.{filter}
use Rattle.std.proofs.lemmas.Bool.{cases_eq, cases_lt}
use Rattle.cp_orbits.specs.Connected.{Joins, Connected, here, step}
use Rattle.cp_conn.specs.Darts.{start, finish}
use Rattle.cp_conn.specs.CutVertex.{avoids, without_vertex}
use Rattle.cp_conn.proofs.DartChains.{dart_at, dart_joins, pair_at, Joins-sym}
use Rattle.cp_conn.proofs.CutVertices.{kept_pair, avoided}

-- the darts lead from x to y: each ends where the next starts
abbrev pub Leads : List (ℕ × ℕ) → ℕ → List ℕ → ℕ → Type 0
Leads es x [] y = x ≡ y
Leads es x (d ∷ ds) y = (d < 2 * length es) × (start es d ≡ x) × Leads es (finish es d) ds y

-- none of the darts starts at z
abbrev pub Misses : List (ℕ × ℕ) → ℕ → List ℕ → Type 0
Misses es z [] = Unit {0}
Misses es z (d ∷ ds) = (start es d ≡ z → ⊥) × Misses es z ds

-- no two of the darts start at one vertex
abbrev pub Apart : List (ℕ × ℕ) → List ℕ → Type 0
Apart es [] = Unit {0}
Apart es (d ∷ ds) = Misses es (start es d) ds × Apart es ds

-- the edge of each dart passes the test
abbrev pub Pass : (ℕ × ℕ → Bool) → List (ℕ × ℕ) → List ℕ → Type 0
Pass p es [] = Unit {0}
Pass p es (d ∷ ds) = (p (get_or es (d / 2) (0, 0)) ≡ true) × Pass p es ds

-- a simple path from x to y along edges that pass the test
pub record PassingPath (es : List (ℕ × ℕ)) (p : ℕ × ℕ → Bool) (x y : ℕ) : Type 0 where
  pub darts : List ℕ
  pub leads : Leads es x darts y
  pub apart : Apart es darts
  pub ends : Misses es y darts
  pub pass : Pass p es darts

-- a simple path from x to y that starts no dart at v
pub record SimplePath (es : List (ℕ × ℕ)) (v x y : ℕ) : Type 0 where
  pub darts : List ℕ
  pub leads : Leads es x darts y
  pub apart : Apart es darts
  pub ends : Misses es y darts
  pub avoids : Misses es v darts

-- the path from w on, where w is on the path, or w is not on it
cut : (es : List (ℕ × ℕ)) (p : ℕ × ℕ → Bool) (w x y : ℕ) (ds : List ℕ) → Leads es x ds y → Apart es ds
    → Misses es y ds → Pass p es ds → PassingPath es p w y ⊎ Misses es w ds
cut es p w x y [] l a m n = inr tt
cut es p w x y (d ∷ ds) l a m n =
    ⊎_elim
    (λ e. inl (record { darts = d ∷ ds; leads = (l.0, e, l.2); apart = a; ends = m; pass = n }))
    (λ ne. ⊎_elim (λ q. inl q) (λ r. inr (ne, r)) (cut es p w (finish es d) y ds l.2 a.1 m.1 n.1))
    (cases_eq (start es d) w)

-- a dart before a simple path gives a simple path, which is cut short where it meets the start of the dart
before : (es : List (ℕ × ℕ)) (p : ℕ × ℕ → Bool) (w x y d : ℕ) → PassingPath es p x y → d < 2 * length es
    → start es d ≡ w → finish es d ≡ x → p (get_or es (d / 2) (0, 0)) ≡ true → PassingPath es p w y
before es p w x y d path lt from to passes =
    ⊎_elim
    (λ e. record { darts = []; leads = e; apart = tt; ends = tt; pass = tt })
    (λ differ. ⊎_elim
    (λ q. q)
    (λ r. record {
      darts = d ∷ path.darts;
      leads = (lt, from, subst (λ (z : ℕ). Leads es z path.darts y) (sym to) path.leads);
      apart = (subst (λ (z : ℕ). Misses es z path.darts) (sym from) r, path.apart);
      ends = (λ e. differ (sym from ∙ e), path.ends);
      pass = (passes, path.pass);
    })
    (cut es p w x y path.darts path.leads path.apart path.ends path.pass))
    (cases_eq w y)

-- vertices that are connected by edges that pass a test have a simple path along such edges
pub passing_path : (es : List (ℕ × ℕ)) (p : ℕ × ℕ → Bool) (x y : ℕ) → Connected (filter p es) x y
    → PassingPath es p y x
passing_path es p x y here = record { darts = []; leads = refl; apart = tt; ends = tt; pass = tt }
passing_path es p x y (step {y = z} c e k j) =
    let kept = kept_pair p es e k in
    let at : get_or es kept.0.0 (0, 0) ≡ e = pair_at es e kept.0 in
    let d : (d : ℕ) × (d < 2 * length es) × (d / 2 ≡ kept.0.0) × (start es d ≡ y) × (finish es d ≡ z) =
    dart_at es kept.0.0 y z kept.0.1 (subst (λ (q : ℕ × ℕ). Joins q y z) (sym at) (Joins-sym e z y j)) in
    before es p y z x d.0 (passing_path es p x z c) d.1 d.3 d.4
    (ap (λ (i : ℕ). p (get_or es i (0, 0))) d.2 ∙ ap p at ∙ kept.1)

-- no dart of an edge that does not touch v starts at v
Pass-Misses : (es : List (ℕ × ℕ)) (v x y : ℕ) (ds : List ℕ) → Leads es x ds y → Pass (avoids v) es ds
    → Misses es v ds
Pass-Misses es v x y [] l n = tt
Pass-Misses es v x y (d ∷ ds) l n = (
  avoided v (get_or es (d / 2) (0, 0)) (finish es d) (start es d) n.0
      (Joins-sym (get_or es (d / 2) (0, 0)) (start es d) (finish es d) (dart_joins es d l.0)),
  Pass-Misses es v (finish es d) y ds l.2 n.1,
)

-- vertices that are connected where v is removed have a simple path that avoids v
pub simple_path : (es : List (ℕ × ℕ)) (v x y : ℕ) → Connected (without_vertex v es) x y → SimplePath es v y x
simple_path es v x y c =
    let path : PassingPath es (avoids v) y x = passing_path es (avoids v) x y c in
    record {
      darts = path.darts;
      leads = path.leads;
      apart = path.apart;
      ends = path.ends;
      avoids = Pass-Misses es v y x path.darts path.leads path.pass;
    }

-- darts that lead to a vertex, and darts that lead on from it, lead on together
pub Leads-append : (es : List (ℕ × ℕ)) (x y z : ℕ) (ds fs : List ℕ) → Leads es x ds y → Leads es y fs z
    → Leads es x (ds ++ fs) z
Leads-append es x y z [] fs l m = subst (λ (w : ℕ). Leads es w fs z) (sym l) m
Leads-append es x y z (d ∷ ds) fs l m = (l.0, l.1, Leads-append es (finish es d) y z ds fs l.2 m)

-- darts miss a vertex also with one more that starts elsewhere
pub Misses-last : (es : List (ℕ × ℕ)) (z f : ℕ) (ds : List ℕ) → Misses es z ds → (start es f ≡ z → ⊥)
    → Misses es z (ds ++ f ∷ [])
Misses-last es z f [] m ne = (ne, tt)
Misses-last es z f (d ∷ ds) m ne = (m.0, Misses-last es z f ds m.1 ne)

-- one dart more that starts where none starts
pub Apart-last : (es : List (ℕ × ℕ)) (f : ℕ) (ds : List ℕ) → Apart es ds → Misses es (start es f) ds
    → Apart es (ds ++ f ∷ [])
Apart-last es f [] a m = (tt, tt)
Apart-last es f (d ∷ ds) a m = (Misses-last es (start es d) f ds a.0 (λ e. m.0 (sym e)), Apart-last es f ds a.1 m.1)

-- a dart that is missed at its place
pub Misses_at : (es : List (ℕ × ℕ)) (z : ℕ) (ds : List ℕ) (i : ℕ) → Misses es z ds → i < length ds
    → start es (get_or ds i 0) ≡ z → ⊥
Misses_at es z [] i m lt e = omega arith
Misses_at es z (d ∷ ds) zero m lt e = m.0 e
Misses_at es z (d ∷ ds) (suc i) m lt e = Misses_at es z ds i m.1 (omega arith) e

-- darts that lead somewhere are darts of the graph
pub Leads-within : (es : List (ℕ × ℕ)) (x y : ℕ) (ds : List ℕ) (i : ℕ) → Leads es x ds y → i < length ds
    → get_or ds i 0 < 2 * length es
Leads-within es x y [] i l lt = absurd (omega arith)
Leads-within es x y (d ∷ ds) zero l lt = l.0
Leads-within es x y (d ∷ ds) (suc i) l lt = Leads-within es (finish es d) y ds i l.2 (omega arith)

-- the first dart starts at the first vertex
pub Leads-first : (es : List (ℕ × ℕ)) (x y : ℕ) (ds : List ℕ) → Leads es x ds y → 0 < length ds
    → start es (get_or ds 0 0) ≡ x
Leads-first es x y [] l lt = absurd (omega arith)
Leads-first es x y (d ∷ ds) l lt = l.1

-- each dart ends where the next starts
pub Leads-linked : (es : List (ℕ × ℕ)) (x y : ℕ) (ds : List ℕ) (i : ℕ) → Leads es x ds y → suc i < length ds
    → finish es (get_or ds i 0) ≡ start es (get_or ds (suc i) 0)
Leads-linked es x y [] i l lt = absurd (omega arith)
Leads-linked es x y (d ∷ ds) zero l lt = sym (Leads-first es (finish es d) y ds l.2 (omega arith))
Leads-linked es x y (d ∷ ds) (suc i) l lt = Leads-linked es (finish es d) y ds i l.2 (omega arith)

-- the last dart ends at the last vertex
pub Leads-last : (es : List (ℕ × ℕ)) (x y : ℕ) (ds : List ℕ) (i : ℕ) → Leads es x ds y → suc i ≡ length ds
    → finish es (get_or ds i 0) ≡ y
Leads-last es x y [] i l e = absurd (omega arith)
Leads-last es x y (d ∷ []) zero l e = l.2
Leads-last es x y (d ∷ f ∷ ds) zero l e = absurd (omega arith)
Leads-last es x y (d ∷ ds) (suc i) l e = Leads-last es (finish es d) y ds i l.2 (omega arith)

-- of darts that start apart the later does not start where the earlier does
apart_at : (es : List (ℕ × ℕ)) (ds : List ℕ) (i j : ℕ) → Apart es ds → i < j → j < length ds
    → start es (get_or ds j 0) ≡ start es (get_or ds i 0) → ⊥
apart_at es [] i j a l lt e = omega arith
apart_at es (d ∷ ds) zero (suc j) a l lt e = Misses_at es (start es d) ds j a.0 (omega arith) e
apart_at es (d ∷ ds) (suc i) (suc j) a l lt e = apart_at es ds i j a.1 (omega arith) (omega arith) e
apart_at es (d ∷ ds) i zero a l lt e = omega arith

-- darts that start apart start at one vertex only if they are one
pub Apart-same : (es : List (ℕ × ℕ)) (ds : List ℕ) (i j : ℕ) → Apart es ds → i < length ds → j < length ds
    → start es (get_or ds i 0) ≡ start es (get_or ds j 0) → i ≡ j
Apart-same es ds i j a lti ltj e =
    ⊎_elim
    (λ f. f)
    (λ ne. ⊎_elim (λ l. absurd (apart_at es ds i j a l ltj (sym e)))
    (λ g. absurd (apart_at es ds j i a (omega arith) lti e)) (cases_lt i j))
    (cases_eq i j)
