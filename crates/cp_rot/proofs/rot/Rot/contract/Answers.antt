use Rattle.std.proofs.Common.{◌≡◌, ◌+◌, ◌*◌, ◌↔◌, ◌∙◌, sym, subst}
use Rattle.std.proofs.lemmas.Result.{IfOk-weaker}
use Rattle.cp_rot.specs.Systems.{System, IsRotation}
use Rattle.cp_rot.specs.Genus.{HasGenusZero}
use Rattle.cp_rot.specs.Tables.{system_of}
use Rattle.cp_rot.specs.Rewrites.{merged, deleted}
use Rattle.cp_rot.proofs.RewriteCode.{made_from, paired_parts, edge_of_parts}
use Rattle.cp_rot.proofs.MergedVertices.{contraction_start, IsRotation-contraction, contraction-HasGenusZero}
use Rattle.cp_rot.proofs.rot.Rot.contract.Goals as goal

pub without_edge-requires-clause-paired : goal.without_edge-requires-clause-paired
without_edge-requires-clause-paired c =
    let r = c.args.self.now in
    let e = c.args.e in
    let is = subst IsRotation c.self.view_is c.self.invariant.rotation in
    let made = made_from (λ s. merged s (2 * e) (2 * e + 1)) c.as_slice.ensures.value c.as_slice-2.ensures.value c.self.view_is c.in_ok-at.ensures in
    paired_parts (merged r (2 * e) (2 * e + 1)) c.as_slice-3.ensures.value made (contraction_start r is e c.requires.edge c.requires.no_loop).0

pub without_edge-requires-clause-edge : goal.without_edge-requires-clause-edge
without_edge-requires-clause-edge c =
    let r = c.args.self.now in
    let e = c.args.e in
    let is = subst IsRotation c.self.view_is c.self.invariant.rotation in
    let made = made_from (λ s. merged s (2 * e) (2 * e + 1)) c.as_slice.ensures.value c.as_slice-2.ensures.value c.self.view_is c.in_ok-at.ensures in
    edge_of_parts (merged r (2 * e) (2 * e + 1)) e c.as_slice-3.ensures.value made (contraction_start r is e c.requires.edge c.requires.no_loop).1

pub build-requires : goal.build-requires
build-requires c =
    let r = c.args.self.now in
    let e = c.args.e in
    let is = subst IsRotation c.self.view_is c.self.invariant.rotation in
    let first = made_from (λ s. merged s (2 * e) (2 * e + 1)) c.as_slice.ensures.value c.as_slice-2.ensures.value c.self.view_is c.in_ok-at.ensures in
    let made = made_from (λ s. deleted s e) c.as_slice-3.ensures.value c.as_slice-4.ensures.value first c.in_ok-at-2.ensures in
    subst IsRotation (sym made) (IsRotation-contraction r is e c.requires.edge c.requires.no_loop)

pub returns-clause-genus : goal.returns-clause-genus
returns-clause-genus c =
    let r = c.args.self.now in
    let e = c.args.e in
    let is = subst IsRotation c.self.view_is c.self.invariant.rotation in
    let first = made_from (λ s. merged s (2 * e) (2 * e + 1)) c.as_slice.ensures.value c.as_slice-2.ensures.value c.self.view_is c.in_ok-at.ensures in
    let made = made_from (λ s. deleted s e) c.as_slice-3.ensures.value c.as_slice-4.ensures.value first c.in_ok-at-2.ensures in
    let P : System → Type 0 = λ s. s ≡ system_of c.in_ok-at-2.at.items c.in_ok-at-2.lists.items in
    let Q : System → Type 0 = λ s. HasGenusZero s ↔ HasGenusZero r in
    IfOk-weaker c.build.result P Q (λ s same. subst (λ t. HasGenusZero t ↔ HasGenusZero r) (sym (same ∙ made)) (contraction-HasGenusZero r is e c.requires.edge c.requires.no_loop)) c.build.ensures
