-- Trees with a place: one frame more round the place.
use Rattle.std.proofs.Common.{◌≡◌, ℕ, Bool, true, List, [], ◌∷◌, ◌++◌, refl}
use Rattle.std.specs.List.{list_all}
use Rattle.cp_pq.specs.declared.node.Node.{Node}
use Rattle.cp_pq.specs.declared.frame.Frame.{Frame}
use Rattle.cp_pq.specs.Words.{has_all}
use Rattle.cp_pq.specs.Frames.{node_of, kids_round, fill, AreOutside}

-- an outermost frame more puts a node round the filled frames
pub fill_push : (fs : List Frame) (f : Frame) (row : List Node)
    → fill (fs ++ f ∷ []) row ≡ node_of f.label (kids_round f (fill fs row)) ∷ []
fill_push [] f row = refl
fill_push (g ∷ fs) f row = fill_push fs f (node_of g.label (kids_round g row) ∷ [])

-- frames beside which all nodes are outside stay so with one frame more of that kind
pub outside_push : (q : ℕ → Bool) (fs : List Frame) (f : Frame) → AreOutside q fs → list_all (has_all q) f.before ≡ true
    → list_all (has_all q) f.after ≡ true → AreOutside q (fs ++ f ∷ [])
outside_push q [] f o b a = (b, a, tt)
outside_push q (g ∷ fs) f o b a = (o.0, o.1, outside_push q fs f o.2 b a)
