-- What kind of vertex a vertex of the skeletons is, and the number of what it stands for.
use Rattle.std.specs.Prelude.{ℕ}
use Rattle.cp_skel.specs.declared.vertex.Vertex.{Vertex}
use Rattle.cp_skel.specs.declared.vertex.Vertex.TheVariants.{Child, Node, Outside}

-- a node, a cluster as it is seen from its parent, or the outside of one
abbrev pub kind : Vertex → ℕ
kind (Node v) = 0
kind (Child c) = 1
kind (Outside c) = 2

-- the number of the node or cluster
abbrev pub number : Vertex → ℕ
number (Node v) = v
number (Child c) = c
number (Outside c) = c
