-- The parts of the edges at a vertex, by the components of what is left without it, are its blocks.
use Rattle.std.proofs.Common.{◌≡◌, ℕ, ◌+◌, ◌<◌, ◌≤◌, ◌↔◌, true, List, [], length, get_or, sym, ap, ◌∙◌, subst, arith}
use Rattle.cp_base.specs.Graphs.{AreWithin}
use Rattle.cp_orbits.specs.Classes.{labels}
use Rattle.cp_conn.specs.CutVertex.{without_vertex}
use Rattle.cp_conn.specs.Grouping.{touches, other_end, key_of, AreGrouped, IsPlaced, IsPut}
use Rattle.cp_conn.specs.Blocks.{HaveNoLoop, AreInOneBlock, AreBlocksAt, item}
use Rattle.cp_conn.proofs.EdgeEnds.{touches_true, touches_of, other_joins, other_differs, other_within}
use Rattle.cp_conn.proofs.OneBlock.{one_block_at}
use Rattle.cp_conn.proofs.Grouping.{AreGrouped-put, IsPlaced-put, place-le}

-- parts by component are parts by block
pub blocks_at : (es : List (ℕ × ℕ)) (n v : ℕ) (least : List ℕ) (parts : List (List ℕ)) → AreWithin n es → HaveNoLoop es
    → ((x : ℕ) → x < n → get_or least x 0 ≡ labels (without_vertex v es) x)
    → AreGrouped (touches es v) (key_of es v least) (length es) parts → AreBlocksAt es v parts
blocks_at es n v least parts w none labelled g = record {
  touching = λ i k lti ltk. let h = (g.each i lti).member k ltk in (h.0, touches_true es v (item parts i k) h.1);
  all = λ e lt t. g.all e lt (touches_of es v e t);
  by_block = by_block;
  rising = λ i k l lti lt ltl. (g.each i lti).rising k l lt ltl;
  filled = λ i lt. (g.each i lt).filled;
  by_least = g.by_least;
}
  where
    -- the key of an edge at v is the label of its other end where v is removed
    label : (e : ℕ) → e < length es → touches es v e ≡ true
        → key_of es v least e ≡ labels (without_vertex v es) (other_end es v e)
    label e lt t = labelled (other_end es v e) (other_within es n v e w lt t)

    -- items of two parts are in one block exactly where the parts are one
    by_block : (i j k l : ℕ) → i < length parts → j < length parts → k < length (get_or parts i [])
        → l < length (get_or parts j []) → AreInOneBlock es (item parts i k) (item parts j l) ↔ (i ≡ j)
    by_block i j k l lti ltj ltk ltl =
        let a = (g.each i lti).member k ltk in
        let b = (g.each j ltj).member l ltl in
        let at = one_block_at es v (item parts i k) (item parts j l) (other_end es v (item parts i k))
        (other_end es v (item parts j l)) a.0 b.0 (other_joins es v (item parts i k) a.1)
        (other_joins es v (item parts j l) b.1) (other_differs es v (item parts i k) none a.0 a.1)
        (other_differs es v (item parts j l) none b.0 b.1) in (
          λ block. g.apart i j lti ltj (sym a.2 ∙ label (item parts i k) a.0 a.1 ∙ at.0 block
              ∙ sym (label (item parts j l) b.0 b.1) ∙ b.2),
          λ e. at.1 (sym (label (item parts i k) a.0 a.1) ∙ a.2
              ∙ ap (λ (m : ℕ). key_of es v least (get_or (get_or parts m []) 0 0)) e ∙ sym b.2
              ∙ label (item parts j l) b.0 b.1),
        )

-- an edge that touches v is put into the part of its other end
pub put_edge : (es : List (ℕ × ℕ)) (v e x : ℕ) (least : List ℕ) (parts : List (List ℕ)) (places : List ℕ)
    (more : List (List ℕ)) (moved : List ℕ) → AreWithin (length least) es
    → ((y : ℕ) → y < length least → get_or least y 0 < length least) → e < length es
    → AreGrouped (touches es v) (key_of es v least) e parts → IsPlaced (key_of es v least) (length least) parts places
    → touches es v e ≡ true → x ≡ other_end es v e → IsPut e (get_or least x 0) parts places more moved
    → AreGrouped (touches es v) (key_of es v least) (e + 1) more
    × IsPlaced (key_of es v least) (length least) more moved
put_edge es v e x least parts places more moved w within lt g pl t x_is put =
    let label : key_of es v least e < length least =
    within (other_end es v e) (other_within es (length least) v e w lt t) in
    let here : IsPut e (key_of es v least e) parts places more moved =
    subst (λ (y : ℕ). IsPut e (get_or least y 0) parts places more moved) x_is put in (
      AreGrouped-put (touches es v) (key_of es v least) (length least) e parts places more moved g pl t label here,
      IsPlaced-put (touches es v) (key_of es v least) (length least) e parts places more moved g pl label here,
    )

-- the place of the other end is at most the number of parts
pub place_within : (es : List (ℕ × ℕ)) (v e x : ℕ) (least : List ℕ) (parts : List (List ℕ)) (places : List ℕ)
    → AreWithin (length least) es → ((y : ℕ) → y < length least → get_or least y 0 < length least) → e < length es
    → IsPlaced (key_of es v least) (length least) parts places
    → touches es v e ≡ true → x ≡ other_end es v e → get_or places (get_or least x 0) 0 ≤ length parts
place_within es v e x least parts places w within lt pl t x_is =
    place-le (key_of es v least) (length least) (get_or least x 0) parts places pl
    (within x (subst (λ (y : ℕ). y < length least) (sym x_is) (other_within es (length least) v e w lt t)))

-- the same as blocks_at, as a program reads the graph and the lists
pub blocks_read : (es read : List (ℕ × ℕ)) (n bound v : ℕ) (rest : List (ℕ × ℕ)) (least seen : List ℕ)
    (parts lists copied : List (List ℕ)) → read ≡ es → bound ≡ n → AreWithin n es → HaveNoLoop es
    → rest ≡ without_vertex v read → ((x : ℕ) → x < bound → get_or least x 0 ≡ labels rest x) → seen ≡ least
    → AreGrouped (touches read v) (key_of read v seen) (length read) parts → lists ≡ parts → copied ≡ lists
    → AreBlocksAt es v copied
blocks_read es read n bound v rest least seen parts lists copied read_is bound_is w none rest_is labelled seen_is g
    lists_is copied_is =
    subst (AreBlocksAt es v) (sym (copied_is ∙ lists_is))
    (blocks_at es n v least parts w none
    (λ x lt. labelled x (omega arith)
    ∙ ap (λ (fs : List (ℕ × ℕ)). labels fs x) (rest_is ∙ ap (without_vertex v) read_is))
    (subst (λ (fs : List (ℕ × ℕ)). AreGrouped (touches fs v) (key_of fs v least) (length fs) parts) read_is
    (subst (λ (xs : List ℕ). AreGrouped (touches read v) (key_of read v xs) (length read) parts) seen_is g)))
