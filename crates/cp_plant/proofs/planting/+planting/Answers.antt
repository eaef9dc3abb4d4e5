-- Kids are planted one after another, and their node in front of them.
use Rattle.std.proofs.Common.{◌≡◌, ℕ, ◌+◌, Bool, ap₂, List, [], ◌∷◌, ◌++◌, ◌∙◌, slice_index, take, set, length, sym, ap, subst, subst₂, arith}
use Rattle.std.proofs.lemmas.List.{take_all, take_more}
use Rattle.cp_base.specs.declared.shape.Branch.{Branch}
use Rattle.cp_board.specs.Plantings.{Planted}
use Rattle.cp_plant.specs.Growing.{AreGrown, IsGrown, node_of, partner_in}
use Rattle.cp_plant.proofs.GrownRows.{leaf-grown, none-grown, more-grown, node-grown}
use Rattle.cp_plant.proofs.planting.+planting.Goals as goal

pub plant_branch-returns-in-Leaf : goal.plant_branch-returns-in-Leaf
plant_branch-returns-in-Leaf t c =
    let f : ℕ → ℕ = partner_in c.args.partners.now in
    let rows = c.args.rows.now.items in
    subst₂ (λ b top. IsGrown f c.args.verts.now c.args.edges.now b top rows rows)
    (sym c.in-Leaf.is) (sym c.partner_of.ensures)
    (leaf-grown f c.args.verts.now c.args.edges.now c.in-Leaf.x rows)

pub plant_node-loop-kid-init : goal.plant_node-loop-kid-init
plant_node-loop-kid-init t c = (
  [],
  c.in_ok-push-2.ensures.items ∙ ap (λ xs. xs ++ c.name_at-top.result ∷ []) c.new-row.ensures.items,
  none-grown (partner_in c.args.partners.now) c.args.verts.now c.args.edges.now c.push.new.self.items,
)

pub plant_node-loop-kid-preserved : goal.plant_node-loop-kid-preserved
plant_node-loop-kid-preserved t c =
    let f : ℕ → ℕ = partner_in c.args.partners.now in
    let top = c.in_ok-plant_branch.field-0 in
    let kids : List Branch = c.args.kids.now in
    let kid : Branch = c.kid-item.result in
    let i = c.loop-kid.kid-index in
    let one : take (i + 1) kids ≡ take i kids ++ kid ∷ [] =
    take_more kids i kid c.loop-kid-test.true ∙ ap (λ z. take i kids ++ z ∷ []) (sym c.kid-item.is) in (
      c.loop-kid.invariant.0 ++ top ∷ [],
      c.in_ok-push-3.ensures.items ∙ ap (λ xs. xs ++ top ∷ []) c.loop-kid.invariant.1,
      subst (λ ks. AreGrown f c.args.verts.now c.args.edges.now ks (c.loop-kid.invariant.0 ++ top ∷ [])
          c.push.new.self.items c.plant_branch.new.rows.items) (sym one)
          (more-grown f c.args.verts.now c.args.edges.now (take i kids) c.loop-kid.invariant.0
          kid top c.push.new.self.items c.loop-kid.rows.items c.plant_branch.new.rows.items
          c.loop-kid.invariant.2 c.in_ok-plant_branch.ensures),
    )

pub plant_node-returns : goal.plant_node-returns
plant_node-returns t c =
    let f : ℕ → ℕ = partner_in c.args.partners.now in
    let verts : List ℕ = c.args.verts.now in
    let edges : List ℕ = c.args.edges.now in
    let fixed : Bool = c.args.fixed in
    let rows : List Planted = c.args.rows.now.items in
    let kids : List Branch = c.args.kids.now in
    let tops : List ℕ = c.loop-kid.invariant.0 in
    let mid : List Planted = c.loop-kid.rows.items in
    let v : ℕ = c.name_at-vertex.result in
    let e : ℕ = c.name_at-top.result in
    let row : ℕ → List ℕ → Planted = λ n es. record { vertex = n; fixed = fixed; edges = es } in
    let place : c.len-place.result ≡ length rows = c.len-place.ensures ∙ c.args.rows.now.ok.0 in
    let at_v : v ≡ slice_index verts (length rows) = c.name_at-vertex.ensures ∙ ap (slice_index verts) place in
    let at_e : e ≡ slice_index edges (length rows) = c.name_at-top.ensures ∙ ap (slice_index edges) place in
    let pushed : c.push.new.self.items ≡ rows ++ row (slice_index verts (length rows)) [] ∷ [] =
    c.in_ok-push.ensures.items ∙ ap₂ (λ n es. rows ++ row n es ∷ []) at_v c.new.ensures.items in
    let whole : take c.loop-kid.kid-index kids ≡ kids =
    take_all c.loop-kid.kid-index kids (omega (arith, c.loop-kid-test.false)) in
    let grown : AreGrown f verts edges kids tops (rows ++ row (slice_index verts (length rows)) [] ∷ []) mid =
    subst₂ (λ ks bs. AreGrown f verts edges ks tops bs mid) whole pushed c.loop-kid.invariant.2 in
    let set_is : c.set_row.new.rows.items ≡ set mid (length rows) (row (slice_index verts (length rows)) (slice_index edges (length rows) ∷ tops)) =
    c.set_row.ensures
    ∙ ap₂ (λ k r. set mid k r) place
    (ap₂ row at_v (c.loop-kid.invariant.1 ∙ ap (λ z. z ∷ tops) at_e)) in
    subst₂ (λ top after. IsGrown f verts edges (node_of fixed kids) top rows after) (sym at_e) (sym set_is)
    (node-grown f verts edges fixed kids tops [] rows mid grown)
