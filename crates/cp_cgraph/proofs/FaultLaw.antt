-- A list has no fault or one first fault.
use Rattle.std.proofs.Common.{◌≡◌, ℕ, ap, ◌∙◌, ◌⊎◌, ⊎_elim, List, [], ◌∷◌, ◌++◌, refl, sym, subst, inl, inr, arith, append_assoc, append-nil, get_or}
use Rattle.std.specs.Prelude.{◌==◌, if◌then◌else◌}
use Rattle.std.proofs.lemmas.Bool.{cases_lt}
use Rattle.std.proofs.lemmas.List.Elements.{All-append, All-contains}
use Rattle.std.specs.List.{All, Contains}
use Rattle.cp_cgraph.specs.declared.kind.GraphKind.{GraphKind}
use Rattle.cp_cgraph.specs.declared.kind.GraphKind.TheVariants.{NoGraph, SecondGraph, NotAList, MissingId, RepeatedKey, BadId, DuplicateNode, UnknownEnd, SecondRoot, UnknownVertex, VertexTwice, MissingEnd}
use Rattle.cp_cgraph.specs.Kinds.{graph_number}
use Rattle.cp_gml.specs.declared.tree.Entry.{Entry}
use Rattle.cp_cgraph.specs.Clustered.{Clustered}
use Rattle.cp_cgraph.specs.GraphFaults.{Fault, IsUpTo, IsFirst, IsFaultOf, faults}
use Rattle.cp_cgraph.specs.GraphOf.{IsGraphOf, graph_of}
use Rattle.cp_cgraph.proofs.Firsts.{IsFirst-one, IsFirst-more}

-- what stands in an empty list is nothing
none_first : (fs : List Fault) (f : Fault) → fs ≡ [] → IsFirst fs f → ⊥
none_first fs f none first =
    let place = subst (λ (xs : List Fault). Contains xs f) none first.stands in
    absurd (omega (arith, place.1))

-- a list that says a graph has no fault
pub no_fault_in_graph : (end : ℕ) (es : List Entry) (g : Clustered) (kind : GraphKind) (at : ℕ) → IsGraphOf end es g
    → IsFaultOf end es kind at → ⊥
no_fault_in_graph end es g kind at is fault = none_first (faults end es) (at, kind) is.flawless fault

-- the kind of a number
abbrev kind_with : ℕ → GraphKind
kind_with number =
    if number == 10 then NoGraph else
    (if number == 11 then SecondGraph else
    (if number == 12 then NotAList else
    (if number == 13 then MissingId else
    (if number == 14 then RepeatedKey else
    (if number == 15 then BadId else
    (if number == 16 then DuplicateNode else
    (if number == 17 then UnknownEnd else
    (if number == 18 then SecondRoot else
    (if number == 19 then UnknownVertex else
    (if number == 20 then VertexTwice else
    MissingEnd))))))))))

-- a kind is that of its number
kind_with-number : (kind : GraphKind) → kind_with (graph_number kind) ≡ kind
kind_with-number NoGraph = refl
kind_with-number SecondGraph = refl
kind_with-number NotAList = refl
kind_with-number MissingId = refl
kind_with-number RepeatedKey = refl
kind_with-number BadId = refl
kind_with-number DuplicateNode = refl
kind_with-number UnknownEnd = refl
kind_with-number SecondRoot = refl
kind_with-number UnknownVertex = refl
kind_with-number VertexTwice = refl
kind_with-number MissingEnd = refl

-- kinds of one number are one
one_number : (k l : GraphKind) → graph_number k ≡ graph_number l → k ≡ l
one_number k l same = sym (kind_with-number k) ∙ ap kind_with same ∙ kind_with-number l

-- two pairs, neither behind the other, are one
both_up : (a : ℕ) (k : GraphKind) (b : ℕ) (l : GraphKind) → IsUpTo (a, k) (b, l) → IsUpTo (b, l) (a, k)
    → (k ≡ l) × (a ≡ b)
both_up a k b l (inl p) (inl q) = absurd (omega (arith, p, q))
both_up a k b l (inl p) (inr q) = absurd (omega (arith, p, q.0))
both_up a k b l (inr p) (inl q) = absurd (omega (arith, p.0, q))
both_up a k b l (inr p) (inr q) = (one_number k l (omega (arith, p.1, q.1)), p.0)

-- a list has at most one first fault as a graph
pub one_graph_fault : (end : ℕ) (es : List Entry) (k : GraphKind) (a : ℕ) (l : GraphKind) (b : ℕ) → IsFaultOf end es k a
    → IsFaultOf end es l b → (k ≡ l) × (a ≡ b)
one_graph_fault end es k a l b x y =
    let here = All-contains (IsUpTo (a, k)) (faults end es) (b, l) x.least y.stands in
    let there = All-contains (IsUpTo (b, l)) (faults end es) (a, k) y.least x.stands in
    both_up a k b l here there

-- of two faults one stands no later than the other
either_up : (f g : Fault) → IsUpTo f g ⊎ IsUpTo g f
either_up f g =
    ⊎_elim (λ before. inl (inl before))
    (λ not_before. ⊎_elim (λ behind. inr (inl behind))
    (λ not_behind. ⊎_elim (λ less. inl (inr (omega (arith, not_before, not_behind), omega (arith, less))))
    (λ more. inr (inr (omega (arith, not_before, not_behind), more)))
    (cases_lt (graph_number f.1) (graph_number g.1)))
    (cases_lt g.0 f.0))
    (cases_lt f.0 g.0)

-- two faults have a first
first_of_two : (f g : Fault) → (h : Fault) × IsFirst (f ∷ g ∷ []) h
first_of_two f g =
    ⊎_elim
    (λ up. (
      f,
      record {
        stands = (0, omega arith, refl);
        least =
            All-append (IsUpTo f) (f ∷ []) (g ∷ []) (IsFirst-one f).least (least_one f g up);
      },
    ))
    (λ up. (
      g,
      record {
        stands = (1, omega arith, refl);
        least =
            All-append (IsUpTo g) (f ∷ []) (g ∷ []) (least_one g f up) (IsFirst-one g).least;
      },
    ))
    (either_up f g)
  where
    -- the later one of two does not stand before the other
    least_one : (a b : Fault) → IsUpTo a b → All (IsUpTo a) (b ∷ [])
    least_one a b up k d lt = let z : k ≡ 0 =
        omega arith in subst (λ (j : ℕ). IsUpTo a (get_or (b ∷ []) j d)) (sym z) up

-- faults behind some that have a first have a first with them
first_behind : (front : List Fault) (best : Fault) → IsFirst front best → (fs : List Fault)
    → (f : Fault) × IsFirst (front ++ fs) f
first_behind front best is [] = (best, subst (λ (xs : List Fault). IsFirst xs best) (sym (append-nil front)) is)
first_behind front best is (f ∷ fs) =
    let two = first_of_two best f in
    let rest = first_behind (front ++ f ∷ []) two.0 (IsFirst-more front best f two.0 is two.1) fs in
    (rest.0, subst (λ (xs : List Fault). IsFirst xs rest.0) (append_assoc front (f ∷ []) fs) rest.1)

-- a list with these faults says a graph or has a first fault
by_faults : (end : ℕ) (es : List Entry) (fs : List Fault) → faults end es ≡ fs
    → ((g : Clustered) × IsGraphOf end es g) ⊎ ((kind : GraphKind) × (at : ℕ) × IsFaultOf end es kind at)
by_faults end es [] e = inl (graph_of es, record { flawless = e; says = refl })
by_faults end es (f ∷ fs) e =
    let first = first_behind (f ∷ []) f (IsFirst-one f) fs in
    inr (first.0.1, first.0.0, subst (λ (xs : List Fault). IsFirst xs first.0) (sym e) first.1)

-- every list says a graph or has a first fault
pub graph_or_fault : (end : ℕ) (es : List Entry)
    → ((g : Clustered) × IsGraphOf end es g) ⊎ ((kind : GraphKind) × (at : ℕ) × IsFaultOf end es kind at)
graph_or_fault end es = by_faults end es (faults end es) refl
