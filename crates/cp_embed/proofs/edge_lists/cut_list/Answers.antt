-- The turned list is its edges to vertices before and then the others, or it is cut nowhere.
use Rattle.std.proofs.Common.{◌≡◌, ℕ, ◌<◌, ◌≤◌, Bool, true, false, not, List, ◌++◌, length, take, drop, sym, ap, ap₂, ◌∙◌, subst}
use Rattle.std.specs.List.{filter}
use Rattle.std.proofs.lemmas.Bool.{false≢true}
use Rattle.std.proofs.lemmas.Bool.Decides.{Decides-eqb}
use Rattle.std.proofs.lemmas.Slice.Eq.{slice_eq-Decides}
use Rattle.cp_lists.specs.CyclicLists.{Has}
use Rattle.cp_lists.specs.Turns.{IsTurn}
use Rattle.cp_embed.specs.Cuts.{IsCut, IsRise, HasNoRise}
use Rattle.cp_embed.specs.VertexOrders.{enters}
use Rattle.cp_embed.proofs.Cuts.{IsTurnedToRise, place-IsTurned, filtered-IsCut, unfiltered-none}
use Rattle.cp_embed.proofs.edge_lists.cut_list.Goals as goal

-- a list turned by a place is a turn of it
turned_by : (list copy turned : List ℕ) (i : ℕ) → i ≤ length list → copy ≡ list → turned ≡ drop i copy ++ take i copy
    → IsTurn list turned
turned_by list copy turned i le same turned_is = (
  i,
  le,
  turned_is ∙ ap (λ us. drop i us ++ take i us) same,
)

-- the items that pass and the others, in the code's own terms
cut_found : (p : ℕ → Bool) (list turned first second whole : List ℕ) → IsTurn list turned → first ≡ filter p turned
    → second ≡ filter (λ k. not (p k)) turned → whole ≡ first ++ second → whole ≡ turned → IsCut p list first second
cut_found p list turned first second whole turn first_is second_is whole_is same =
    subst (λ us. IsCut p list us second) (sym first_is) (subst (IsCut p list (filter p turned)) (sym second_is)
    (filtered-IsCut p turned list turn
    (sym (ap₂ (λ us vs. us ++ vs) first_is second_is) ∙ sym whole_is ∙ same)))

-- where they are not the turned list, no cut is there
none_found : (p : ℕ → Bool) (list copy turned first second whole : List ℕ) (i : ℕ) → IsTurn list turned → copy ≡ list
    → turned ≡ drop i copy ++ take i copy → (0 < i → IsRise p list i) → (i ≡ 0 → HasNoRise p list (length list))
    → ((k : ℕ) × Has k list × (p k ≡ true)) → ((k : ℕ) × Has k list × (p k ≡ false)) → first ≡ filter p turned
    → second ≡ filter (λ k. not (p k)) turned → whole ≡ first ++ second → (whole ≡ turned → ⊥)
    → (us vs : List ℕ) → IsCut p list us vs → ⊥
none_found p list copy turned first second whole i turn same turned_is rise none some_in some_out first_is second_is
    whole_is apart =
    unfiltered-none p turned list turn
    (subst (IsTurnedToRise p) (sym (turned_is ∙ ap (λ us. drop i us ++ take i us) same))
    (place-IsTurned p list i rise none some_in some_out))
    (λ e. apart (whole_is ∙ ap₂ (λ us vs. us ++ vs) first_is second_is ∙ e))

pub returns-then-eq : goal.returns-then-eq
returns-then-eq c =
    cut_found (enters c.args.later.now c.args.vertex) c.args.list.now c.rotate_left.new.self.items
    c.in_ok-first.first.items c.in_ok-second.second.items c.in_ok-whole.whole.items
    (turned_by c.args.list.now c.in_ok-turned.turned.items c.rotate_left.new.self.items c.place_of_rise.result
    c.place_of_rise.ensures.within c.in_ok-turned.ensures.items c.rotate_left.ensures.items)
    (c.in_ok-first.ensures ∙ ap (filter (enters c.args.later.now c.args.vertex)) c.as_slice.ensures.value)
    (c.in_ok-second.ensures ∙ ap (filter (λ k. not (enters c.args.later.now c.args.vertex k))) c.as_slice-2.ensures.value)
    (c.in_ok-whole.ensures ∙ ap₂ (λ us vs. us ++ vs) c.as_slice-3.ensures.value c.as_slice-4.ensures.value)
    (sym c.as_slice-5.ensures.value ∙ (slice_eq-Decides Decides-eqb c.as_slice-5.result.now c.as_slice-6.result.now c.eq.result c.eq.ensures).0 c.if-eq.true ∙ c.as_slice-6.ensures.value)

pub returns : goal.returns
returns c =
    none_found (enters c.args.later.now c.args.vertex) c.args.list.now c.in_ok-turned.turned.items
    c.rotate_left.new.self.items c.in_ok-first.first.items c.in_ok-second.second.items c.in_ok-whole.whole.items
    c.place_of_rise.result
    (turned_by c.args.list.now c.in_ok-turned.turned.items c.rotate_left.new.self.items c.place_of_rise.result
    c.place_of_rise.ensures.within c.in_ok-turned.ensures.items c.rotate_left.ensures.items)
    c.in_ok-turned.ensures.items c.rotate_left.ensures.items c.place_of_rise.ensures.rise c.place_of_rise.ensures.none
    c.requires.some_in c.requires.some_out
    (c.in_ok-first.ensures ∙ ap (filter (enters c.args.later.now c.args.vertex)) c.as_slice.ensures.value)
    (c.in_ok-second.ensures ∙ ap (filter (λ k. not (enters c.args.later.now c.args.vertex k))) c.as_slice-2.ensures.value)
    (c.in_ok-whole.ensures ∙ ap₂ (λ us vs. us ++ vs) c.as_slice-3.ensures.value c.as_slice-4.ensures.value)
    (λ e. false≢true (sym c.if-eq.false ∙ (slice_eq-Decides Decides-eqb c.as_slice-5.result.now c.as_slice-6.result.now c.eq.result c.eq.ensures).1 (c.as_slice-5.ensures.value ∙ e ∙ sym c.as_slice-6.ensures.value)))
