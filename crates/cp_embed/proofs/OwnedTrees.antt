-- The owners of the P-nodes along the building of a tree: where an owner is removed, edges on different sides of its
-- P-node are not connected by what is taken.
use Rattle.std.proofs.Common.{◌≡◌, ◌≢◌, ℕ, suc, ◌+◌, ◌<◌, Option, Some, None, List, [], ◌∷◌, length, slice_index, reverse, sym, ap, ◌∙◌, subst, inl, inr, ⊎_elim, arith}
use Rattle.cp_lists.specs.CyclicLists.{Has, Lacks, Distinct}
use Rattle.cp_lists.proofs.DistinctLists.{has_lacks, Lacks-from}
use Rattle.cp_conn.specs.Darts.{start}
use Rattle.cp_faces.specs.Twins.{twin}
use Rattle.cp_pq.specs.declared.node.Node.{Node}
use Rattle.cp_pq.specs.declared.node.Node.TheVariants.{P}
use Rattle.cp_pq.specs.declared.part.Part.{Part}
use Rattle.cp_pq.specs.Nodes.{leaves, IsIn}
use Rattle.cp_pq.specs.Owners.{AreOnOneSide, IsExchangedFor, KeepsOwners}
use Rattle.cp_pq.specs.Promises.{IsStar}
use Rattle.cp_pq.specs.Trees.{PQTree}
use Rattle.cp_embed.specs.declared.taking.Frame.{Frame}
use Rattle.cp_embed.specs.BuiltTrees.{IsBuilt}
use Rattle.cp_embed.specs.Directions.{edge_of}
use Rattle.cp_embed.specs.ListedBlocks.{ListedGraph, IsListedBlock, list_given}
use Rattle.cp_embed.specs.OwnedTrees.{HasOldSides, IsOwnerStep, HaveOwner, HasOwners}
use Rattle.cp_embed.specs.Sweeps.{LeadsInto}
use Rattle.cp_embed.specs.TreeSteps.{IsTreeStep}
use Rattle.cp_embed.specs.VertexOrders.{IsTakingOrder, edges_in, edges_out, taken_at}
use Rattle.cp_embed.proofs.FirstOrders.{first_taken}
use Rattle.cp_embed.proofs.LinkedEdges.{after_cases, linked_after}
use Rattle.cp_embed.proofs.Sides.{AreOnOneSide-trans, kids-Distinct, outside_sides, in_star, in_row}
use Rattle.cp_embed.proofs.StageTrees.{no_loops, taken_more, taken_is, sweep, ins_are, outs_are, some_in, some_out}

-- what the owners of a tree become in a step from it to one with the same owners and on to one in which the set is
-- exchanged for a node with the leaves of outs
sides_on : (ins outs : List ℕ) (old mid new node : Node) → (i : ℕ) × Has i ins
    → ((k : ℕ) → Has k (leaves node) → Has k outs) → ((k : ℕ) → Has k outs → Has k (leaves node)) → KeepsOwners old mid
    → (owner : ℕ) (kids mid_kids : List Node) → IsIn (P owner mid_kids) mid
    → ((a b : ℕ) → Has a ins → Has b ins → AreOnOneSide mid_kids a b)
    → ((a b c d : ℕ) → IsExchangedFor ins (leaves node) a c → IsExchangedFor ins (leaves node) b d
    → AreOnOneSide mid_kids a b → AreOnOneSide kids c d)
    → HasOldSides ins outs old owner kids
sides_on ins outs old mid new node some to fro keeps owner kids mid_kids in_mid one exchange =
    let o = keeps owner mid_kids in_mid in
    record {
      old_kids = o.0;
      in_old = o.1;
      together = λ c d hc hd. exchange some.0 some.0 c d (inr (some.1, fro c hc)) (inr (some.1, fro d hd))
          (one some.0 some.0 some.1 some.1);
      sides = λ a b c d x y s. exchange a b c d (changed a c x) (changed b d y) (o.2 a b s);
    }
  where
    changed : (a c : ℕ) → IsExchangedFor ins outs a c → IsExchangedFor ins (leaves node) a c
    changed a c = ⊎_elim
        (λ s. inl (s.0, s.1, Lacks-from c (leaves node) (λ h. has_lacks c outs (to c h) s.2)))
        (λ s. inr (s.0, fro c s.1))

-- a step keeps the owners but for the vertex that is taken
pub step-IsOwnerStep : (given : Option (List ℕ)) (x : ℕ) (ins outs : List ℕ) (old new : PQTree) (part : Part)
    → (i : ℕ) × Has i ins → IsTreeStep given x ins outs old new part → IsOwnerStep x ins outs old new
step-IsOwnerStep None x ins outs old new part some s owner kids h = ⊎_elim
    (λ own. inl (in_star owner x kids outs (subst (IsIn (P owner kids)) s.node_is own)))
    (λ w. inr (sides_on ins outs old.body s.mid.body new.body s.node some (λ k. (s.node_leaves k).0)
    (λ k. (s.node_leaves k).1) s.reduced.owners owner kids w.0 w.1 w.2 (λ a b c d p q. (w.3 a b c d p q).0)))
    (s.replaced.owners owner kids h)
step-IsOwnerStep (Some list) x ins outs old new part some s owner kids h = ⊎_elim
    (λ own. absurd (in_row owner x kids (reverse s.second) (subst (IsIn (P owner kids)) s.node_is own)))
    (λ w. inr (sides_on ins outs old.body s.mid.body new.body s.node some (λ k. (s.node_leaves k).0)
    (λ k. (s.node_leaves k).1) s.forced.owners owner kids w.0 w.1 w.2 (λ a b c d p q. (w.3 a b c d p q).0)))
    (s.replaced.owners owner kids h)

-- a block, and the order in which its vertices are taken
module _ (block : ListedGraph) (well : IsListedBlock block) (order later : List ℕ) (root : ℕ)
    (ord : IsTakingOrder block.graph order later root) where
  -- where the darts stand
  abbrev at : ℕ → ℕ
  at = start block.graph.ends

  -- how many edges there are
  abbrev e : ℕ
  e = length block.graph.ends

  -- where each P-node has the first vertex as its owner, nothing is linked behind it
  first-HasOwners : (s : ℕ) (tree : PQTree) → HaveOwner s tree → HasOwners block (s ∷ []) tree
  first-HasOwners s tree own owner kids h =
      let is : owner ≡ s = own owner kids h in (
        inl (sym is),
        λ a b l. absurd (⊎_elim (λ same. l.from_apart (sym same ∙ sym is)) (λ none. none) l.from_leads.into),
      )

  -- one vertex more
  module _ (j : ℕ) (lt : suc j + 1 < length order) (old new : PQTree) (once : Distinct (leaves new.body)) where
    -- the vertex
    abbrev x : ℕ
    x = slice_index order (suc j)

    -- and those before it
    abbrev taken : List ℕ
    taken = slice_index order j ∷ taken_at order j

    -- its edges to these
    abbrev ins : List ℕ
    ins = edges_in block.graph.ends later x

    -- and its others
    abbrev outs : List ℕ
    outs = edges_out block.graph.ends later x

    -- in a step from a tree whose owners part the edges
    step-HasOwners : HasOwners block taken old → IsOwnerStep x ins outs old new → HasOwners block (x ∷ taken) new
    step-HasOwners owned step owner kids h = ⊎_elim
        (λ own. (
          inl (sym own.0),
          λ a b l. subst (λ ks. AreOnOneSide ks a b) (sym own.1)
              (outside_sides outs a b
              (subst (λ k. Lacks k outs) l.from_is (none_at l.from l.from_leads (λ f. l.from_apart (f ∙ sym own.0))))
              (subst (λ k. Lacks k outs) l.to_is (none_at l.to l.to_leads (λ f. l.to_apart (f ∙ sym own.0))))),
        ))
        (λ s.
        let before = owned owner s.old_kids s.in_old in (
          inr before.0,
          linked_after at e (no_loops block well order later root ord) taken x new_x ins outs
              (ins_are block well order later root ord j lt) (outs_are block well order later root ord j lt) owner
              before.0
              old.body kids s (some_out block well order later root ord j lt)
              (AreOnOneSide-trans kids (kids-Distinct owner kids new.body h once)) before.1,
        ))
        (step owner kids h)
      where
        new_x : Lacks x taken
        new_x = (sweep block well order later root ord j lt).0.new

        none_at : (d : ℕ) → LeadsInto at e (x ∷ taken) d → at (twin d) ≢ x → Lacks (edge_of d) outs
        none_at d q apart = ⊎_elim
            (λ f. absurd (apart f.1))
            (λ f. f.3)
            (after_cases at e (no_loops block well order later root ord) taken x new_x ins outs
            (ins_are block well order later root ord j lt) (outs_are block well order later root ord j lt) d q)

  -- the owners of a tree that is built part its edges
  pub built-HasOwners : (frames : List Frame) (tree : PQTree) → IsBuilt block order later root frames tree
      → suc (length frames) < length order → HasOwners block (taken_at order (suc (length frames))) tree
  built-HasOwners [] tree built lt = subst (λ us. HasOwners block us tree)
      (sym (first_taken block well order later root ord)) (first-HasOwners (slice_index order 0) tree built.1)
  built-HasOwners (frame ∷ frames) tree built lt =
      let j : ℕ = length frames in
      let less : suc j + 1 < length order = omega (arith, lt) in
      subst (λ us. HasOwners block us tree)
      (sym (taken_more block well order later root ord (suc j) (omega (arith, lt))
      ∙ ap (λ us. slice_index order (suc j) ∷ us) (taken_is block well order later root ord j less)))
      (step-HasOwners j less built.0 tree built.3.formed.distinct.1
      (subst (λ us. HasOwners block us built.0) (taken_is block well order later root ord j less)
      (built-HasOwners frames built.0 built.1 (omega (arith, lt))))
      (step-IsOwnerStep (list_given block.lists (slice_index order (suc j))) (slice_index order (suc j))
      (edges_in block.graph.ends later (slice_index order (suc j)))
      (edges_out block.graph.ends later (slice_index order (suc j))) built.0 tree frame.part
      (some_in block well order later root ord j less) built.2.step))

-- a star has its owner alone
pub star-HaveOwner : (root vars v s : ℕ) (xs : List ℕ) (tree : PQTree) → v ≡ s → IsStar root xs v vars tree
    → HaveOwner s tree
star-HaveOwner root vars v s xs tree same star owner kids h =
    (in_star owner v kids xs (subst (λ (t : PQTree). IsIn (P owner kids) t.body) star.tree_is h)).0 ∙ same

-- a tree with the owners of another has no other owner
pub kept-HaveOwner : (s : ℕ) (old new : PQTree) → KeepsOwners old.body new.body → HaveOwner s old → HaveOwner s new
kept-HaveOwner s old new keeps own owner kids h = let o = keeps owner kids h in own owner o.0 o.1
