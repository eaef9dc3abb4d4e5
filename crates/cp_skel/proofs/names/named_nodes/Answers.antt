use Rattle.std.proofs.Common.{◌≡◌, ℕ, ◌+◌, ◌<◌, List, length, refl, sym, ap, ◌∙◌, subst, arith}
use Rattle.std.specs.Prelude.{slice_index_or, slice_set}
use Rattle.cp_skel.specs.Skeletons.{all_vertices}
use Rattle.cp_skel.specs.SkeletonTables.{AreNodesTold}
use Rattle.cp_skel.specs.declared.vertex.Vertex.{Vertex}
use Rattle.cp_skel.specs.declared.vertex.Vertex.TheVariants.{Node}
use Rattle.cp_skel.proofs.NameTables.{AreNodesTold-all, AreNodesTold-more, AreNodesTold-other, node_at-lt, vertex_found}
use Rattle.cp_skel.proofs.names.named_nodes.Goals.{in-Node, in_default}
use Rattle.cp_skel.proofs.names.named_nodes.Goals as goal

pub index_mut-requires : goal.index_mut-requires
index_mut-requires c =
    let k : c.loop-k.k < length (all_vertices c.args.g.now) = omega (arith, ap length c.requires.vertices) in
    let node = node_at-lt c.args.g.now c.loop-k.k c.in-Node.v k
    (vertex_found c.args.g.now c.args.vertices.now c.loop-k.k (Node c.in-Node.v) c.requires.vertices c.in-Node.is) in
    omega (arith, node, c.loop-k.invariant.size, c.loop-k.names.ok)

pub loop-k-preserved : goal.loop-k-preserved
loop-k-preserved c =
    let lt : c.loop-k.k < length (all_vertices c.args.g.now) = omega (arith, ap length c.requires.vertices) in
    elim c.match-vertices-k.branch [
      | in-Node w ↦
          subst (AreNodesTold c.args.g.now (c.loop-k.k + 1)) (sym (ap (λ v. v.items) w.names-is))
          (AreNodesTold-more c.args.g.now c.loop-k.k w.in-Node.v c.loop-k.names.items
          (slice_set c.loop-k.names.items w.in-Node.v c.loop-k.k) c.loop-k.invariant lt
          (vertex_found c.args.g.now c.args.vertices.now c.loop-k.k (Node w.in-Node.v) c.requires.vertices w.in-Node.is)
          refl)
      | in_default w ↦
          subst (AreNodesTold c.args.g.now (c.loop-k.k + 1)) (sym (ap (λ v. v.items) w.names-is))
          (AreNodesTold-other c.args.g.now c.loop-k.k c.loop-k.names.items c.loop-k.invariant
          (λ v at. w.in_default.not-Node v
          (ap (λ (vs : List Vertex). slice_index_or vs c.loop-k.k (Node 0)) c.requires.vertices ∙ at)))
    ]

pub returns : goal.returns
returns c =
    let last : c.loop-k.k ≡ length (all_vertices c.args.g.now) = omega (arith, ap length c.requires.vertices) in
    AreNodesTold-all c.args.g.now c.requires.clustered c.loop-k.names.items
    (subst (λ (n : ℕ). AreNodesTold c.args.g.now n c.loop-k.names.items) last c.loop-k.invariant)
