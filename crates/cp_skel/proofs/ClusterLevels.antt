-- Borders of nested clusters opened: whether the cluster of a dart lies in cluster c tells the inside of the border of
-- c from its outside, and is the same on each other border.
use Rattle.std.proofs.Common.{◌≡◌, ℕ, ◌-◌, ◌*◌, ◌<◌, ◌≢◌, Bool, true, false, List, [], ◌∷◌, ◌++◌, slice_index, sym, ap, ◌∙◌, ⊎_elim, arith}
use Rattle.std.proofs.lemmas.Bool.{cases_lt}
use Rattle.cp_lists.specs.CyclicLists.{Distinct}
use Rattle.cp_cgraph.proofs.Ancestors.{IsLower, encloses, encloses_higher, encloses_itself, encloses_step}
use Rattle.cp_maps.specs.Borders.{Place}
use Rattle.cp_maps.specs.Genus.{Becomes, Evenly}
use Rattle.cp_maps.specs.Maps.{IsMapOf}
use Rattle.cp_skel.specs.OpenedBorders.{AreInOneCluster, AreLevelled, AreParted, IsAtBorder, IsSettled, closed_borders, opened_borders}
use Rattle.cp_skel.proofs.OpenedBorders.{AtPlaces-from, opened_borders-Becomes}

-- a cluster lies round the one round b as it lies round b, if it is not b
encloses_other : (ps : List ℕ) → IsLower ps → (c b : ℕ) → b ≢ c → slice_index ps (b - 1) < b
    → encloses ps c (slice_index ps (b - 1)) ≡ encloses ps c b
encloses_other ps lower c b differ less = ⊎_elim
    (λ lt. sym (encloses_step ps lower c b lt))
    (λ ge. encloses_higher ps lower c (slice_index ps (b - 1)) (omega (arith, differ))
    ∙ sym (encloses_higher ps lower c b (omega (arith, differ))))
    (cases_lt c b)

-- the tests of nested clusters part their borders
AreParted-levelled : (ps : List ℕ) → IsLower ps → (border : ℕ → List Place) (level : ℕ → ℕ) (cs : List ℕ)
    → AreLevelled ps border level cs → AreParted border (λ c d. encloses ps c (level d)) cs
AreParted-levelled ps low border level cs are =
    let outer : ℕ → ℕ = λ c. slice_index ps (c - 1) in
    record {
      twins = λ c d. ap (encloses ps c) (are.twins d);
      inner = λ c h. AtPlaces-from (IsAtBorder level c (outer c)) (λ q. encloses ps c (level q.inside) ≡ true)
          (border c) (λ q at. ap (encloses ps c) at.inside ∙ encloses_itself ps low c) (are.at_border c h);
      outer = λ c h. AtPlaces-from (IsAtBorder level c (outer c)) (λ q. encloses ps c (level q.outside) ≡ false)
          (border c)
          (λ q at. ap (encloses ps c) at.outside ∙ encloses_higher ps low c (outer c) (are.lower c h))
          (are.at_border c h);
      settled = λ c b hc hb differ. (
        encloses ps c b,
        AtPlaces-from (IsAtBorder level b (outer b)) (IsSettled (λ d. encloses ps c (level d)) (encloses ps c b))
            (border b)
            (λ q at. record {
              begins = ap (encloses ps c) at.begins;
              inside = ap (encloses ps c) at.inside;
              outside = ap (encloses ps c) at.outside ∙ encloses_other ps low c b differ (are.lower b hb);
            })
            (are.at_border b hb),
      );
    }

-- lists in one cluster each are even
AreInOneCluster-Evenly : (p : ℕ → Bool) (level : ℕ → ℕ) (rows : List (List ℕ)) → AreInOneCluster level rows
    → Evenly (λ d. p (level d)) rows
AreInOneCluster-Evenly p level [] one = tt
AreInOneCluster-Evenly p level (xs ∷ rows) one =
    (λ c d hc hd. ap p (one.0 c d hc hd), AreInOneCluster-Evenly p level rows one.1)

-- the borders of nested clusters opened: the genus stays
pub levelled_borders-Becomes : (ps : List ℕ) → IsLower ps → (e : ℕ) (f : ℕ → ℕ) (border : ℕ → List Place)
    (level : ℕ → ℕ) (cs : List ℕ) (rows : List (List ℕ)) → Distinct cs → AreLevelled ps border level cs
    → AreInOneCluster level rows → IsMapOf (2 * e) f (closed_borders border cs ++ rows)
    → Becomes e f (opened_borders border cs ++ rows)
levelled_borders-Becomes ps low e f border level cs rows once are one is =
    opened_borders-Becomes e f border (λ c d. encloses ps c (level d)) cs rows once
    (AreParted-levelled ps low border level cs are)
    (λ c h. AreInOneCluster-Evenly (encloses ps c) level rows one) is
