-- The kids of a row by their kinds, as code sorts them.
use Rattle.std.proofs.Common.{◌≡◌, ℕ, Bool, List, flat_map, reverse, sym, ap, ◌∙◌, subst}
use Rattle.std.specs.List.{AllZip}
use Rattle.std.proofs.lemmas.List.{reverse-reverse}
use Rattle.cp_pq.specs.declared.node.Node.{Node}
use Rattle.cp_pq.specs.declared.found.Found.{Found}
use Rattle.cp_pq.specs.Founds.{IsGiven, Sorts, out_node, in_node, mixed_found}
use Rattle.cp_pq.proofs.Zips.{zip_sorts}

-- sorted from its end, a row is sorted
pub sorted_by : (q p : ℕ → Bool) (ks outs ins : List Node) (mixed founds back : List Found) → back ≡ reverse founds
    → outs ≡ flat_map out_node (reverse back) → ins ≡ flat_map in_node (reverse back)
    → mixed ≡ flat_map mixed_found (reverse back)
    → AllZip (IsGiven q p) ks founds → Sorts q p ks outs ins mixed
sorted_by q p ks outs ins mixed founds back e o i m z =
    let same : reverse back ≡ founds = ap reverse e ∙ reverse-reverse founds in
    let s = zip_sorts q p ks founds z in
    record {
      clear = s.clear;
      outs_are = o ∙ ap (flat_map out_node) same ∙ s.outs_are;
      ins_are = i ∙ ap (flat_map in_node) same ∙ s.ins_are;
      mixed_are = subst (AllZip (IsGiven q p) _) (sym (m ∙ ap (flat_map mixed_found) same)) s.mixed_are;
    }
