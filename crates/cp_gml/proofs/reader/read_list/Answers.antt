use Rattle.std.proofs.Common.{◌≡◌, ℕ, List, false, length, refl, subst, arith}
use Rattle.std.proofs.lemmas.Result.{IfOk-weaker, IfErr-weaker}
use Rattle.cp_gml.specs.declared.tree.GmlList.{GmlList, out-GmlList}
use Rattle.cp_gml.specs.declared.fault.ListFault.{ListFault}
use Rattle.cp_gml.specs.Tokens.{start, Front}
use Rattle.cp_gml.specs.Trees.{tree, spelled}
use Rattle.cp_gml.specs.Lists.{IsListOf, IsFaultOf, IfFault}
use Rattle.cp_gml.specs.Machine.{state, Faults}
use Rattle.cp_gml.specs.Moves.{IsRead}
use Rattle.cp_gml.proofs.Reading.{IfFault-weaker}
use Rattle.cp_gml.proofs.Viable.{IsFaultOf-from_Faults}
use Rattle.cp_gml.proofs.reader.read_list.Goals as goal

-- what is read from the first token on is the list of the text
whole_list : (text : List ℕ) (from : ℕ) (list : GmlList) → from ≡ start text → IsRead text from 0 list
    → IsListOf text (tree (out-GmlList list).entries)
whole_list text from list at_start read = record {
  to = read.stop;
  cut = subst (λ (x : ℕ). Front text x (spelled (tree (out-GmlList list).entries)) read.stop) at_start read.entries.cut;
  ends = (read.ends.whole refl).0;
  shallow = omega (arith, read.entries.shallow);
}

-- the fault of a reader from the first token on is that of the text
whole_fault : (text : List ℕ) (from : ℕ) (e : ListFault) → from ≡ start text
    → IfFault e (Faults text from (state 0 false)) → IfFault e (IsFaultOf text)
whole_fault text from e at_start =
    IfFault-weaker e (Faults text from (state 0 false)) (IsFaultOf text)
    (λ kind at f. IsFaultOf-from_Faults text kind at (subst (λ (x : ℕ). Faults text x (state 0 false) kind at) at_start
    f))

pub returns : goal.returns
returns c =
    let text = c.args.text.now in
    let from = c.start_of-from.result in
    let at_start = c.start_of-from.ensures.value in
    record {
      list = IfOk-weaker c.entries_from.result (IsRead text from 0) (λ list. IsListOf text
          (tree (out-GmlList list).entries))
          (λ list read. whole_list text from list at_start read) c.entries_from.ensures.list;
      whole = IfOk-weaker c.entries_from.result (IsRead text from 0) (λ list. (out-GmlList list).end ≡ length text)
          (λ list read. (read.ends.whole refl).1) c.entries_from.ensures.list;
      fault = IfErr-weaker c.entries_from.result (λ e. IfFault e (Faults text from (state 0 false)))
          (λ e. IfFault e (IsFaultOf text))
          (λ e f. whole_fault text from e at_start f) c.entries_from.ensures.fault;
    }
