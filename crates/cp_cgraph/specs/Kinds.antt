-- The numbers and the names of the faults of a list that should say a clustered graph.
use Rattle.std.specs.Prelude.{ℕ, List, codes}
use Rattle.cp_cgraph.specs.declared.kind.GraphKind.{GraphKind}
use Rattle.cp_cgraph.specs.declared.kind.GraphKind.TheVariants.{NoGraph, SecondGraph, NotAList, MissingId, RepeatedKey, BadId, DuplicateNode, UnknownEnd, SecondRoot, UnknownVertex, VertexTwice, MissingEnd}

-- the number of a kind in the format
abbrev pub graph_number : GraphKind → ℕ
graph_number NoGraph = 10
graph_number SecondGraph = 11
graph_number NotAList = 12
graph_number MissingId = 13
graph_number RepeatedKey = 14
graph_number BadId = 15
graph_number DuplicateNode = 16
graph_number UnknownEnd = 17
graph_number SecondRoot = 18
graph_number UnknownVertex = 19
graph_number VertexTwice = 20
graph_number MissingEnd = 21

-- the name of a kind
abbrev pub graph_name : GraphKind → List ℕ
graph_name NoGraph = codes "NoGraph"
graph_name SecondGraph = codes "SecondGraph"
graph_name NotAList = codes "NotAList"
graph_name MissingId = codes "MissingId"
graph_name RepeatedKey = codes "RepeatedKey"
graph_name BadId = codes "BadId"
graph_name DuplicateNode = codes "DuplicateNode"
graph_name UnknownEnd = codes "UnknownEnd"
graph_name SecondRoot = codes "SecondRoot"
graph_name UnknownVertex = codes "UnknownVertex"
graph_name VertexTwice = codes "VertexTwice"
graph_name MissingEnd = codes "MissingEnd"
