use Rattle.std.proofs.Common.{◌≡◌, ℕ, ◌+◌, ◌<◌, List, length, refl, sym, ap, ◌∙◌, subst, arith}
use Rattle.std.specs.Prelude.{Some, slice_index_or, slice_set}
use Rattle.cp_skel.specs.Skeletons.{all_vertices}
use Rattle.cp_skel.specs.SkeletonTables.{AreClustersTold}
use Rattle.cp_skel.specs.declared.vertex.Vertex.{Vertex}
use Rattle.cp_skel.specs.declared.vertex.Vertex.TheVariants.{Node, Child}
use Rattle.cp_skel.proofs.NameTables.{AreClustersTold-all, AreClustersTold-more, AreClustersTold-other, child_at, left-child, vertex_found}
use Rattle.cp_skel.proofs.VertexKinds.{number}
use Rattle.cp_skel.proofs.names.named_children.Goals.{in-Child, in_default}
use Rattle.cp_skel.proofs.names.named_children.Goals as goal

pub index_mut-requires : goal.index_mut-requires
index_mut-requires c =
    let k : c.loop-k.k < length (all_vertices c.args.g.now) = omega (arith, ap length c.requires.vertices) in
    let node = child_at c.args.g.now c.loop-k.k c.in-Child.c k
    (vertex_found c.args.g.now c.args.vertices.now c.loop-k.k (Child c.in-Child.c) c.requires.vertices c.in-Child.is) in
    omega (arith, node.0, c.loop-k.invariant.size, c.loop-k.names.ok)

pub loop-k-preserved : goal.loop-k-preserved
loop-k-preserved c =
    let lt : c.loop-k.k < length (all_vertices c.args.g.now) = omega (arith, ap length c.requires.vertices) in
    elim c.match-vertices-k.branch [
      | in-Child w ↦
          let at = vertex_found c.args.g.now c.args.vertices.now c.loop-k.k (Child w.in-Child.c) c.requires.vertices
          w.in-Child.is in
          subst (AreClustersTold c.args.g.now Child (c.loop-k.k + 1)) (sym (ap (λ v. v.items) w.names-is))
          (AreClustersTold-more c.args.g.now Child (λ b d e. ap number e) c.loop-k.k w.in-Child.c c.loop-k.names.items
          (slice_set c.loop-k.names.items w.in-Child.c (Some c.loop-k.k)) c.loop-k.invariant lt at
          (child_at c.args.g.now c.loop-k.k w.in-Child.c lt at) refl)
      | in_default w ↦
          subst (AreClustersTold c.args.g.now Child (c.loop-k.k + 1)) (sym (ap (λ v. v.items) w.names-is))
          (AreClustersTold-other c.args.g.now Child (λ b d e. ap number e) c.loop-k.k c.loop-k.names.items
          c.loop-k.invariant
          (λ b at. w.in_default.not-Child b
          (ap (λ (vs : List Vertex). slice_index_or vs c.loop-k.k (Node 0)) c.requires.vertices ∙ at)))
    ]

pub returns : goal.returns
returns c =
    let last : c.loop-k.k ≡ length (all_vertices c.args.g.now) = omega (arith, ap length c.requires.vertices) in
    AreClustersTold-all c.args.g.now Child (λ b d e. ap number e) c.loop-k.names.items
    (subst (λ (n : ℕ). AreClustersTold c.args.g.now Child n c.loop-k.names.items) last c.loop-k.invariant)
    (left-child c.args.g.now c.requires.clustered)
