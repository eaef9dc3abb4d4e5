use Rattle.std.proofs.Common.{◌≡◌, ℤ, ◌+◌, List, [], ◌∷◌, ◌++◌, map, drop, get_or, ap, ◌∙◌, arith}
use mir.Val.{to_z, of_z}
use mir.Syntax.{w32}
use Rattle.std.proofs.lemmas.Int.{to_z-of_z}
use Rattle.cp_cgraph.specs.GraphFaults.{Fault, name_faults, names_faults}
use Rattle.cp_cgraph.specs.declared.clusters.Name.{Name}
use Rattle.cp_cgraph.proofs.NameSteps.{nobody, names_next, names_faults_next}
use Rattle.cp_cgraph.proofs.names.read_names.Goals as goal

pub names-preserved : goal.names-preserved
names-preserved c =
    let same : to_z w32 (of_z w32 c.id_of-id.result) ≡ c.id_of-id.result = grind (arith, to_z-of_z) in
    let ids = c.args.ids.now in
    let ms = c.args.names.now in
    let i = c.names.name-index in
    let named = c.names.named in
    let m = get_or ms i nobody in
    let id_is : to_z w32 (of_z w32 c.id_of-id.result) ≡ m.id = same ∙ c.id_of-id.ensures in
    let named_is : c.in_ok-named.named ≡ named ++ m.id ∷ [] = c.in_ok-named.ensures
    ∙ ap (λ (n : ℤ). named ++ n ∷ []) id_is in
    let faults_are : c.check_name.new.faults ≡ c.names.faults ++ name_faults ids named m.id m.at =
    c.in_ok-check_name.ensures ∙ ap (λ (n : ℤ). c.names.faults ++ name_faults ids named n m.at) id_is in
    record {
      named_are = ap (λ (ns : List ℤ). ns ++ map (λ (x : Name). x.id) (drop (i + 1) ms)) named_is
          ∙ names_next named ms i c.names-test.true ∙ c.names.invariant.named_are;
      faults_are =
          ap (λ (fs : List Fault). fs ++ names_faults ids c.in_ok-named.named (drop (i + 1) ms)) faults_are
          ∙ ap (λ (ns : List ℤ). (c.names.faults ++ name_faults ids named m.id m.at) ++ names_faults ids ns
          (drop (i + 1) ms)) named_is
          ∙ names_faults_next ids named c.names.faults ms i c.names-test.true
          ∙ c.names.invariant.faults_are;
    }
