-- What a fault of making a border graph says of the layout.
use Rattle.cp_cgraph.specs.Clustered.{Clustered}
use Rattle.cp_cgraph.specs.declared.layout.Layout.{Layout}
use Rattle.cp_border.specs.declared.border_graph.BorderFault.{BorderFault}
use Rattle.cp_border.specs.declared.border_graph.BorderFault.TheVariants.{Node, Cluster, Memory}
use Rattle.cp_border.specs.Good.{IsFirstWrongNode, IsFirstWrongCluster}

-- the fault names the first wrong line; want of memory says nothing of the layout
abbrev pub IsFaultOf : Clustered → Layout → BorderFault → Type 0
IsFaultOf g l (Node i) = IsFirstWrongNode g l i
IsFaultOf g l (Cluster k) = IsFirstWrongCluster g l k
IsFaultOf g l Memory = Unit {0}
