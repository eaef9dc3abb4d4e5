-- The numbers of blocks, from links within blocks that connect the edges of each.
use Rattle.std.proofs.Common.{◌≡◌, ℕ, ◌<◌, ◌↔◌, List, length, get_or, eqb, sym, ap, ◌∙◌, subst, inl, inr, ⊎_elim, arith}
use Rattle.std.proofs.lemmas.Bool.{eqb-true, eq-eqb}
use Rattle.cp_base.specs.Graphs.{AreWithin}
use Rattle.cp_lists.specs.Count.{count, IsCount}
use Rattle.cp_orbits.specs.Classes.{labels, classes}
use Rattle.cp_orbits.specs.Connected.{Joins, Connected}
use Rattle.cp_lists.proofs.Counting.{count_agree}
use Rattle.cp_orbits.proofs.ClassLabels.{labels-le, labels-labels, connected_label, labels_connected, Connected-trans, Connected-sym}
use Rattle.cp_conn.specs.Blocks.{HaveNoLoop, AreInOneBlock, Touches}
use Rattle.cp_conn.specs.Links.{AreBlockLinks}
use Rattle.cp_conn.specs.Numbering.{IsLeast, AreNumbered}
use Rattle.cp_conn.proofs.DartChains.{within_joined, Joins-sym, Contains-at}
use Rattle.cp_conn.proofs.BlockClasses.{block_connected, connected_block}

-- links within blocks that connect the edges of each block at each vertex: their components are the blocks
pub linked_blocks : (es links : List (ℕ × ℕ)) (n e f : ℕ) → AreWithin n es → HaveNoLoop es → AreBlockLinks es n links
    → (labels links e ≡ labels links f → AreInOneBlock es e f)
    × (AreInOneBlock es e f → labels links e ≡ labels links f)
linked_blocks es links n e f w none l = (
  λ same. block_connected es links e f none (λ p c. (l.within p c).2)
      (Connected-trans links e (labels links e) f (connected_label links e)
      (Connected-sym links f (labels links e) (subst (Connected links f) (sym same) (connected_label links f)))),
  λ block. labels_connected links e f
      (connected_block es links e f
      (λ a b v x y lta ltb ja jb ab. l.connects v a b
      (within_joined n es (get_or es a (0, 0)) x v w (Contains-at es a lta) (Joins-sym (get_or es a (0, 0)) v x ja)) lta
      ltb (touch a v x ja) (touch b v y jb) ab) block),
)
  where
    -- an edge that joins v to something touches v
    touch : (a v x : ℕ) → Joins (get_or es a (0, 0)) v x → Touches es v a
    touch a v x j = ⊎_elim (λ h. inl h.0) (λ h. inr h.1) j

-- links join edges
pub links_within : (es links : List (ℕ × ℕ)) (n : ℕ) → AreBlockLinks es n links → AreWithin (length es) links
links_within es links n l k lt = let h = l.within (get_or links k (0, 0)) (Contains-at links k lt) in (h.0, h.1)

-- the least edges of blocks give the numbers of the blocks
pub numbered_blocks : (es read links seen : List (ℕ × ℕ)) (n edges : ℕ) (least list numbers : List ℕ) → read ≡ es
    → edges ≡ length read → seen ≡ links → AreWithin n es → HaveNoLoop es → AreBlockLinks es n links
    → length least ≡ edges → ((x : ℕ) → x < edges → get_or least x 0 ≡ labels seen x) → list ≡ least
    → length numbers ≡ length list
    → ((x : ℕ) → x < length list → get_or numbers x 0 ≡ count (get_or list x 0) (λ y. eqb (get_or list y 0) y))
    → AreNumbered (AreInOneBlock es) (length es) numbers
numbered_blocks es read links seen n edges least list numbers read_is edges_is seen_is w none l size labelled list_is
    same counted = record {
      one_each = same ∙ ap length list_is ∙ size ∙ count_of;
      by_least = λ x lt. record {
        least = labels links x;
        related = (linked_blocks es links n (labels links x) x w none l).0 (labels-labels links x);
        leads = λ y b. omega (
          arith,
          (linked_blocks es links n (labels links x) y w none l).1 b,
          labels-labels links x,
          labels-le links y,
        );
        counted = number x lt;
      };
    }
  where
    -- the edges that were read are those of the graph
    count_of : edges ≡ length es
    count_of = edges_is ∙ ap length read_is

    -- the list tells the least edge of the component of each edge by links
    label : (x : ℕ) → x < length es → get_or list x 0 ≡ labels links x
    label x lt = ap (λ (zs : List ℕ). get_or zs x 0) list_is ∙ labelled x (omega (arith, count_of))
        ∙ ap (λ (fs : List (ℕ × ℕ)). labels fs x) seen_is

    -- an edge is the least of its block exactly where it is the least of its component by links
    leader : (x : ℕ) → IsLeast (AreInOneBlock es) x ↔ (labels links x ≡ x)
    leader x = (
      λ least_is. omega (
        arith,
        labels-le links x,
        least_is (labels links x)
            ((linked_blocks es links n x (labels links x) w none l).0 (sym (labels-labels links x))),
      ),
      λ e y b. omega (arith, (linked_blocks es links n x y w none l).1 b, labels-le links y),
    )

    -- the number of an edge counts the components by links below its own
    total : (x : ℕ) → x < length es → get_or numbers x 0 ≡ classes (labels links x) links
    total x lt = counted x (omega (arith, ap length list_is, size, count_of))
        ∙ ap (λ (k : ℕ). count k (λ y. eqb (get_or list y 0) y)) (label x lt)
        ∙ count_agree (labels links x) (λ y. eqb (get_or list y 0) y) (λ y. eqb (labels links y) y)
        (λ y lty. ap (λ (k : ℕ). eqb k y) (label y (omega (arith, labels-le links x))))

    -- the number of an edge counts the blocks below its own
    number : (x : ℕ) → x < length es → IsCount (IsLeast (AreInOneBlock es)) (labels links x) (get_or numbers x 0)
    number x lt = record {
      test = λ y. eqb (labels links y) y;
      decides = λ y lty. (
        λ t. (leader y).1 (eqb-true (labels links y) y t),
        λ least_is. eq-eqb (labels links y) y
            ((leader y).0 least_is),
      );
      counted = total x lt;
    }
