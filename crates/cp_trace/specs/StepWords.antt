-- The words of the lines of reductions.
use Rattle.std.specs.Prelude.{ℕ, codes, List, [], ◌∷◌}
use Rattle.std.specs.Fmt.{decimal}
use Rattle.cp_board.specs.declared.steps.Step.{Step}
use Rattle.cp_board.specs.declared.steps.Step.TheVariants.{Small, FreePole, FusePoles, Toroidal, Join, Propagate}
use Rattle.cp_board.specs.declared.steps.Reason.{Reason}
use Rattle.cp_board.specs.declared.steps.Reason.TheVariants.{NotPlanar, CyclesDiffer, BlocksCross, Conflict}
use Rattle.cp_trace.specs.declared.step_key.StepKey.{StepKey}
use Rattle.cp_trace.specs.declared.step_key.StepKey.TheVariants as keys
use Rattle.cp_trace.specs.Reading.{words}
use Rattle.cp_trace.specs.Texts.{body_text}

-- the word behind `step`
abbrev pub key_word : StepKey → List ℕ
key_word keys.Small = codes "small"
key_word keys.Free = codes "free"
key_word keys.Fuse = codes "fuse"
key_word keys.Torus = codes "torus"
key_word keys.Join = codes "join"
key_word keys.Tree = codes "tree"

-- which reduction it is
abbrev pub key_of_step : Step → StepKey
key_of_step (Small pipe) = keys.Small
key_of_step (FreePole pipe end pole) = keys.Free
key_of_step (FusePoles pipe end pole) = keys.Fuse
key_of_step (Toroidal pipe) = keys.Torus
key_of_step (Join pipe) = keys.Join
key_of_step (Propagate pipe end shape) = keys.Tree

-- the words behind that word
abbrev pub step_args : Step → List (List ℕ)
step_args (Small pipe) = decimal pipe ∷ []
step_args (FreePole pipe end pole) = decimal pipe ∷ decimal end ∷ decimal pole ∷ []
step_args (FusePoles pipe end pole) = decimal pipe ∷ decimal end ∷ decimal pole ∷ []
step_args (Toroidal pipe) = decimal pipe ∷ []
step_args (Join pipe) = decimal pipe ∷ []
step_args (Propagate pipe end shape) =
    decimal pipe ∷ decimal end ∷ decimal shape.root ∷ words (body_text shape.body)

-- the words of the line that tells why there is no solution
abbrev pub reason_words : Reason → List (List ℕ)
reason_words (NotPlanar edge) = codes "failed" ∷ codes "not-planar" ∷ decimal edge ∷ []
reason_words (CyclesDiffer a b) = codes "failed" ∷ codes "cycles" ∷ decimal a ∷ decimal b ∷ []
reason_words (BlocksCross vertex) = codes "failed" ∷ codes "cross" ∷ decimal vertex ∷ []
reason_words Conflict = codes "failed" ∷ codes "conflict" ∷ []
