-- What is read of a file, in the words of a publication.
use Rattle.bridge_report.specs.declared.reading.Halt.TheVariants as halt
use Rattle.bridge_io.specs.declared.outside.Store.{Ghosts as Store}
use Rattle.std.proofs.Common.{Result, Ok, Err, ap, refl}
use Rattle.bridge_io.specs.{Answer.told_as, Outside.Files}
use Rattle.bridge_report.specs.{declared.reading.Halt.Halt, Reading.Named as NamedRefusal, Reading.ReadsAs as ReadsFile}
use Rattle.publish_core.specs.{Refusals.stop_of_halt, Sides.{ReadsAs, read_refused}}

module _ {F X Y : Type 0} (store : Store F) (old new : F) (shown : X → Y) (given : Files → Result Y NamedRefusal) where
  pub is_read : (x : X) → ReadsFile store old new shown given (Ok x)
      → ReadsAs store old new shown (λ files. told_as read_refused (given files)) (Ok x)
  is_read x read = record {
    read = λ files told. ap (told_as read_refused) (read.read files told);
    cause = record { never_falls = read.cause.never_falls; rose = λ e. absurd (cc) };
    files = read.files;
    writes = read.writes;
  }

  pub is_halted : (h : Halt) → ReadsFile store old new shown given (Err h)
      → ReadsAs store old new shown (λ files. told_as read_refused (given files)) (Err (stop_of_halt h))
  is_halted (halt.Refused file refusal) read = record {
    read = λ files told. ap (told_as read_refused) (read.read files told);
    cause = record { never_falls = read.cause.never_falls; rose = λ e. absurd (cc) };
    files = read.files;
    writes = read.writes;
  }
  is_halted halt.ReadFault read = record {
    read = λ files told. tt;
    cause = record { never_falls = read.cause.never_falls; rose = λ e. read.cause.rose refl };
    files = read.files;
    writes = read.writes;
  }
  is_halted halt.Memory read = record {
    read = λ files told. tt;
    cause = record { never_falls = read.cause.never_falls; rose = λ e. absurd (cc) };
    files = read.files;
    writes = read.writes;
  }
