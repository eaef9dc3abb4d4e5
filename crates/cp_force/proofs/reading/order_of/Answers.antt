-- Behind the root stands the word of the body.
use Rattle.std.proofs.Common.{ℕ, Bool, List, [], ◌∷◌, ◌++◌, ap, ap₂, ◌∙◌}
use Rattle.cp_pq.specs.declared.node.Node.{Node}
use Rattle.cp_pq.specs.Nodes.{has_vars_below}
use Rattle.cp_pq.specs.Trees.{PQTree}
use Rattle.cp_force.specs.Words.{word_by}
use Rattle.cp_force.proofs.Words.{Reads-word}
use Rattle.cp_force.proofs.reading.order_of.Goals as goal

pub returns : goal.returns
returns c =
    let tree : PQTree = c.args.tree.now in
    let bits : List Bool = c.args.bits.now in
    record {
      word = word_by bits tree.body;
      order_is = c.in_ok-order.ensures ∙ c.as_slice.ensures.value ∙ c.in_ok-push_word.ensures
          ∙ ap (λ xs. xs ++ word_by bits c.body.result.now) (c.in_ok-push.ensures.items
          ∙ ap (λ xs. xs ++ c.root.result ∷ []) c.new-word.ensures.items)
          ∙ ap₂ (λ (r : ℕ) (n : Node). r ∷ word_by bits n) c.root.ensures.value c.body.ensures.value;
      bits_count = c.requires.one_each;
      reads = Reads-word bits tree.body (ap (λ n. has_vars_below n tree.body) c.requires.one_each
          ∙ c.root.ensures.well_formed.vars_below);
      met = c.requires.met;
    }
