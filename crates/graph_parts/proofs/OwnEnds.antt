-- What is told ends otherwise than a run that tells nothing.
use Rattle.std.proofs.Common.{ℕ, List}
use Rattle.cp_io.specs.Commands as commands
use Rattle.graph_parts.specs.Answer.{Told, shared_ends}
use Rattle.graph_parts.specs.Answer.Told.{refused, unfit, done}
use Rattle.graph_parts.specs.declared.ask.Asked.{Asked}
use Rattle.graph_parts.specs.declared.end.End.{End}

-- nothing is told with an end that all commands share
pub own_told : (a : Asked) (bytes : List ℕ) (end : End) (text : List ℕ) → Told a bytes end text
    → commands.IsOwn shared_ends end
own_told a bytes end text (refused kind at is) =
    record { usage = λ e. cc; too_long = λ e. cc; read = λ e. cc; write = λ e. cc; memory = λ e. cc }
own_told a bytes end text (unfit g is unfitting) =
    record { usage = λ e. cc; too_long = λ e. cc; read = λ e. cc; write = λ e. cc; memory = λ e. cc }
own_told a bytes end text (done g is fits numbers are) =
    record { usage = λ e. cc; too_long = λ e. cc; read = λ e. cc; write = λ e. cc; memory = λ e. cc }

-- the ends that all commands share differ
pub shared_apart : commands.AreApart shared_ends
shared_apart = record {
  usage = record { read = λ e. cc; write = λ e. cc; memory = λ e. cc };
  too_long = record { read = λ e. cc; write = λ e. cc; memory = λ e. cc };
  not_too_long = λ e. cc;
  read_write = λ e. cc;
  read_memory = λ e. cc;
  write_memory = λ e. cc;
}
