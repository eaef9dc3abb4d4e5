-- In a rotation of an instance the two poles of a bond have mirrored lists.
use Rattle.std.proofs.Common.{◌≡◌, ℕ, List, length, subst}
use Rattle.std.specs.List.{Contains}
use Rattle.cp_lists.proofs.DistinctLists.{Has-Contains}
use Rattle.cp_conn.specs.Bonds.{IsAlong, IsBond}
use Rattle.cp_conn.specs.NamedGraphs.{NamedGraph, edges_at}
use Rattle.cp_maps.specs.Genus.{IsFlat}
use Rattle.cp_maplaw.proofs.BondedPoles.{bonded_poles-IsTurn}
use Rattle.cp_maplaw.proofs.Systems.{system_flat}
use Rattle.cp_rot.specs.Systems.{IsRotation, System, edges, next}
use Rattle.cp_board.specs.Instances.{Synchronized, IsSynchronized, graph}
use Rattle.cp_board.specs.Rotations.{IsRotationOf, dart, system}
use Rattle.cp_board.specs.Solutions.{IsMirror}
use Rattle.cp_synclaw.proofs.InstanceDarts.{instance_darts}
use Rattle.cp_synclaw.proofs.InstanceSystems.{instance-IsArrangedBy, system-IsMapOf, system-IsRotation, system_edges}

-- in a rotation the poles of a bond of equal degrees mirror each other along it
pub bond-IsMirror : (i : Synchronized) → IsSynchronized i → (s : ℕ → List ℕ) → IsRotationOf (graph i) s → (u v : ℕ)
    → Contains (graph i).verts u → Contains (graph i).verts v → IsBond (graph i) u v
    → length (edges_at (graph i) u) ≡ length (edges_at (graph i) v) → (along : ℕ → ℕ) → IsAlong (graph i) u v along
    → IsMirror along (s u) (s v)
bond-IsMirror i is s rotation u v cu cv bond equal along goes =
    let g : NamedGraph = graph i in
    let r : System = system g s in
    let rot : IsRotation r = system-IsRotation i is s rotation.arranged in
    let flat : IsFlat (length g.edges) (next r) =
    subst (λ n. IsFlat n (next r)) (system_edges i is s rotation.arranged)
    ((system_flat r rot).0 rotation.flat) in
    bonded_poles-IsTurn (length g.edges) g (dart g) s (next r) (instance_darts i is)
    (instance-IsArrangedBy i is s rotation.arranged) (system-IsMapOf i is s rotation.arranged) flat u v
    ((Has-Contains u g.verts).1 cu) ((Has-Contains v g.verts).1 cv) bond equal along goes
