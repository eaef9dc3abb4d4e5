-- A graph of one block stays connected where a vertex is removed.
use Rattle.std.proofs.Common.{ℕ, ◌<◌, List, length, get_or}
use Rattle.cp_orbits.specs.Connected.{Joins}
use Rattle.cp_conn.specs.Blocks.{HaveNoLoop, Touches}
use Rattle.cp_conn.specs.CutVertex.{AreBiconnected}
use Rattle.cp_conn.proofs.BlockPaths.{block_ends_connected}
use Rattle.cp_conn.proofs.EdgeEnds.{touch_joins}
use Rattle.cp_ears.specs.Bipolar.{IsOneBlock, HaveEdges}

-- a graph of one block in which each vertex has an edge is biconnected
pub biconnected_of : (n : ℕ) (es : List (ℕ × ℕ)) → HaveNoLoop es → IsOneBlock es → HaveEdges n es
    → AreBiconnected n es
biconnected_of n es none one has v x y ltx lty nex ney =
    let ex : (e : ℕ) × (e < length es) × Touches es x e = has x ltx in
    let ey : (e : ℕ) × (e < length es) × Touches es y e = has y lty in
    let jx : (w : ℕ) × Joins (get_or es ex.0 (0, 0)) x w = touch_joins es x ex.0 ex.2 in
    let jy : (w : ℕ) × Joins (get_or es ey.0 (0, 0)) y w = touch_joins es y ey.0 ey.2 in
    block_ends_connected es v ex.0 ey.0 x y jx.0 jy.0 none ex.1 ey.1 jx.1 jy.1 nex ney (one ex.0 ey.0 ex.1 ey.1)
