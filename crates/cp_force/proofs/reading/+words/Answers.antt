-- One node more was read.
use Rattle.std.proofs.Common.{◌≡◌, ℕ, ◌+◌, ◌<◌, Bool, List, ◌++◌, length, take, get_or, sym, ap, ap₂, ◌∙◌, arith, append_assoc, append-nil, cond, ◌-◌}
use Rattle.cp_pq.specs.declared.node.Node.{Node}
use Rattle.cp_force.specs.Words.{word_by, words_by}
use Rattle.cp_pq.specs.Promises.{in_direction}
use Rattle.cp_force.proofs.Words.{word_by-Leaf, word_by-P, word_by-Q, words_by-more, words_by-none, turned_at, length-turned}
use Rattle.cp_force.proofs.reading.+words.Goals as goal

pub push_word-returns-in_ok-push-in-Leaf : goal.push_word-returns-in_ok-push-in-Leaf
push_word-returns-in_ok-push-in-Leaf t c =
    c.in_ok-push-in-Leaf.ensures.items
    ∙ ap (λ xs. c.args.word.now.items ++ xs) (sym (ap (word_by c.args.bits.now) c.in-Leaf.is
    ∙ word_by-Leaf c.args.bits.now c.in-Leaf.x))

pub push_word-returns-in_ok-push_words-in-P : goal.push_word-returns-in_ok-push_words-in-P
push_word-returns-in_ok-push_words-in-P t c =
    c.in_ok-push_words-in-P.ensures
    ∙ ap (λ xs. c.args.word.now.items ++ xs)
    (ap (words_by c.args.bits.now) c.items.ensures ∙ sym
    (ap (word_by c.args.bits.now) c.in-P.is ∙ word_by-P c.args.bits.now c.in-P.owner c.in-P.kids))

pub push_word-returns-in_ok-push_words-in-Q : goal.push_word-returns-in_ok-push_words-in-Q
push_word-returns-in_ok-push_words-in-Q t c =
    c.in_ok-push_words-in-Q.ensures
    ∙ ap (λ xs. c.args.word.now.items ++ xs)
    (ap₂ (λ turned row. words_by c.args.bits.now (in_direction turned row)) c.bit-turned.ensures c.items-in-Q.ensures
    ∙ sym (ap (word_by c.args.bits.now) c.in-Q.is ∙ word_by-Q c.args.bits.now c.in-Q.var c.in-Q.kids))

pub push_words-loop-i-init : goal.push_words-loop-i-init
push_words-loop-i-init t c =
    sym (ap (λ xs. c.args.word.now.items ++ xs) (words_by-none c.args.bits.now) ∙ append-nil c.args.word.now.items)

-- one node more, in the code's own terms
one_more : (bits : List Bool) (nodes : List Node) (turned : Bool) (i place : ℕ) (node : Node)
    (start word longer : List ℕ)
    → i < length nodes → place ≡ cond turned (length nodes - 1 - i) i → node ≡ get_or nodes place node
    → word ≡ start ++ words_by bits (take i (in_direction turned nodes)) → longer ≡ word ++ word_by bits node
    → longer ≡ start ++ words_by bits (take (i + 1) (in_direction turned nodes))
one_more bits nodes turned i place node start word longer lt place_is node_is word_is longer_is =
    longer_is ∙ ap (λ xs. xs ++ word_by bits node) word_is
    ∙ append_assoc start (words_by bits (take i (in_direction turned nodes))) (word_by bits node)
    ∙ ap (λ xs. start ++ xs)
    (ap (λ n. words_by bits (take i (in_direction turned nodes)) ++ word_by bits n)
    (node_is ∙ ap (λ k. get_or nodes k node) place_is ∙ sym (turned_at turned nodes i node lt))
    ∙ sym (words_by-more bits (in_direction turned nodes) i node (omega (arith, length-turned turned nodes))))

pub push_words-loop-i-preserved : goal.push_words-loop-i-preserved
push_words-loop-i-preserved t c =
    one_more c.args.bits.now c.args.nodes.now c.args.turned c.loop-i.i c.place.result c.index-nodes-place.result
    c.args.word.now.items c.loop-i.word.items c.push_word.new.word.items
    (omega arith) c.place.ensures c.index-nodes-place.is c.loop-i.invariant c.in_ok-push_word.ensures
