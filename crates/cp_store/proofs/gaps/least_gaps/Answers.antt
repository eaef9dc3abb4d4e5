-- The names that are passed, one more at a time.
use Rattle.std.proofs.Common.{◌≡◌, ℕ, ◌+◌, ◌<◌, ◌≤◌, not, Bool, true, false, List, [], ◌∷◌, ◌++◌, length, map, ap, sym, ◌∙◌, inl, inr, arith, Vec, Global}
use Rattle.std.proofs.lemmas.List.{length-append, length-map}
use Rattle.cp_board.specs.Names.{has, new_names}
use Rattle.cp_store.specs.Exchanges.{items_of}
use Rattle.cp_store.proofs.NewNames.{items-most, new_names-passed, passing-more_false, passing-more_true}
use Rattle.cp_store.proofs.gaps.least_gaps.Goals as goal
use Rattle.cp_store.proofs.gaps.least_gaps.Goals.{then-is_gap+in_ok-push, else-is_gap}

pub returns-then-len-n : goal.returns-then-len-n
returns-then-len-n g c =
    new_names-passed (map g.T.Named.name (items_of c.args.table.now.entries.items)) c.args.n c.loop-k.k
    c.loop-k.names.items c.loop-k.invariant.0 c.loop-k.invariant.1
    (inl (omega (arith, c.if-len-n.true, c.len-in-loop-k.ensures)))

pub loop-k-preserved : goal.loop-k-preserved
loop-k-preserved g c =
    let live = map g.T.Named.name (items_of c.args.table.now.entries.items) in
    let p : ℕ → Bool = λ j. not (has live j) in
    let k = c.loop-k.k in
    let names = c.loop-k.names.items in
    let few : length names < c.args.n = omega (arith, c.if-len-n.false, c.len-in-loop-k.ensures, c.loop-k.invariant.1) in
    elim c.if-is_gap.branch [
      | then-is_gap+in_ok-push w ↦
          let same = ap (λ (a : Vec ℕ Global). a.items) w.names-is ∙ w.in_ok-push.ensures.items in (
            same ∙ ap (λ (xs : List ℕ). xs ++ k ∷ []) c.loop-k.invariant.0
                ∙ sym (passing-more_true p k (sym c.is_gap.ensures ∙ w.if-is_gap.true)),
            omega (arith, few, ap length same, length-append names (k ∷ [])),
          )
      | else-is_gap w ↦ (
        ap (λ (a : Vec ℕ Global). a.items) w.names-is ∙ c.loop-k.invariant.0
            ∙ sym (passing-more_false p k (sym c.is_gap.ensures ∙ w.if-is_gap.false)),
        omega (arith, few, ap (λ (a : Vec ℕ Global). length a.items) w.names-is),
      )
    ]

pub returns : goal.returns
returns g c =
    let items = items_of c.args.table.now.entries.items in
    new_names-passed (map g.T.Named.name items) c.args.n c.loop-k.k
    c.loop-k.names.items c.loop-k.invariant.0 c.loop-k.invariant.1
    (inr (omega (
      arith,
      c.loop-k-test.false,
      c.in-Some.ensures,
      c.len.ensures,
      length-map items g.T.Named.name,
      items-most c.args.table.now.entries.items,
    )))
