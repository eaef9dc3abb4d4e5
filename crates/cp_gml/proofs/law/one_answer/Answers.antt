use Rattle.cp_gml.proofs.Laid.{list_laid_out, laid_out_list, found_exactly, passed_gap}
use Rattle.cp_gml.specs.Tokens.{start}
use Rattle.cp_gml.proofs.Outcomes.{some_entries}
use Rattle.cp_gml.proofs.Same.{same_entries}
use Rattle.cp_gml.proofs.Unique.{one_list, list_or_fault, one_fault}
use Rattle.cp_gml.proofs.law.one_answer.Goals as goal

pub returns : goal.returns
returns c = record {
  lists = one_list;
  entries = same_entries;
  apart = list_or_fault;
  some = some_entries;
  faults = one_fault;
  laid_out = list_laid_out;
  found = laid_out_list;
  cut = λ text ts to. found_exactly text ts (start text) to;
  passed = passed_gap;
}
