use Rattle.std.proofs.Common.{◌≡◌, ◌↔◌, ℕ, true, List, length, subst, sym, ◌∙◌, arith, MatchBool}
use Rattle.cp_base.specs.Graphs.{AreWithin}
use Rattle.cp_conn.specs.CutVertex.{without_vertex, IsNeighbour, HasNeighbourApart, IsCutVertex}
use Rattle.cp_conn.proofs.CutVertices.{AreWithin-without, near_within, cuts_told, cuts_alone}
use Rattle.cp_conn.proofs.cut_vertex.is_cut_vertex.Goals as goal

pub least_connected-requires : goal.least_connected-requires
least_connected-requires c =
    let bound : AreWithin c.vertices.result c.ends-ends.result.now =
    subst (λ (n : ℕ). AreWithin n c.ends-ends.result.now) (sym c.vertices.ensures.value)
    (subst (AreWithin c.args.g.now.vertices) (sym c.ends-ends.ensures.value) c.ends-ends.ensures.within) in
    subst (AreWithin c.vertices.result) (sym (c.as_slice.ensures.value ∙ c.in_ok-rest.ensures))
    (AreWithin-without c.vertices.result c.args.v c.ends-ends.result.now bound)

pub index-requires : goal.index-requires
index-requires c =
    let bound : AreWithin c.args.g.now.vertices c.ends-ends.result.now =
    subst (AreWithin c.args.g.now.vertices) (sym c.ends-ends.ensures.value) c.ends-ends.ensures.within in
    let size : length c.in_ok-least.least.items ≡ c.vertices.result = c.in_ok-least.ensures.size in
    omega (
      arith,
      near_within c.args.g.now.vertices c.ends-ends.result.now c.args.v c.in-Some.near bound
          c.in-Some.ensures,
      size,
      c.vertices.ensures.value,
    )

pub returns-in-Some : goal.returns-in-Some
returns-in-Some c =
    let es : List (ℕ × ℕ) = c.ends-ends.result.now in
    let bound : AreWithin c.args.g.now.vertices es =
    subst (AreWithin c.args.g.now.vertices) (sym c.ends-ends.ensures.value) c.ends-ends.ensures.within in
    let rest : c.as_slice.result.now ≡ without_vertex c.args.v es = c.as_slice.ensures.value ∙ c.in_ok-rest.ensures in
    let test = subst (λ (xs : List ℕ). MatchBool c.has_neighbour_apart.result
    (HasNeighbourApart es c.args.v xs c.index.result.now) (HasNeighbourApart es c.args.v xs c.index.result.now → ⊥))
    c.as_slice-in-Some.ensures.value c.has_neighbour_apart.ensures in
    subst (λ (fs : List (ℕ × ℕ)). (c.has_neighbour_apart.result ≡ true) ↔ IsCutVertex fs c.args.v)
    c.ends-ends.ensures.value
    (cuts_told es c.args.g.now.vertices c.vertices.result c.args.v c.in-Some.near c.index.result.now
    c.as_slice.result.now c.in_ok-least.least.items c.has_neighbour_apart.result
    bound c.vertices.ensures.value rest c.in_ok-least.ensures.size c.in_ok-least.ensures.labelled c.in-Some.ensures
    c.index.ensures test)

pub returns : goal.returns
returns c = cuts_alone c.args.g.now.ends c.args.v
    (subst (λ (es : List (ℕ × ℕ)). (x : ℕ) → IsNeighbour es c.args.v x → ⊥) c.ends-ends.ensures.value c.in-None.ensures)
