-- What a printer does with the bytes that it is given.
use Rattle.std.specs.Prelude.{◌≡◌, List, ℕ, ◌++◌, Result}
use Rattle.pim_page.specs.Ends.{Told}
use Rattle.pim_judge.specs.Prints.{Prints}
use Rattle.pim_judge.specs.declared.printer.Printer.{Printer}
use Rattle.pim_judge.specs.declared.fault.Fault.{Fault}

-- the printer took these bytes, written or still in the page, or it stopped
pub record Takes {W T : Type 0} (told : W → Told) (old new : Printer W) (bytes : List ℕ) (result : Result T Fault)
    : Type 0 where
  pub same_writer : new.writer.ghost_name ≡ old.writer.ghost_name
  pub prints : Prints (told old.writer.now) (told new.writer.now) (old.page.now ++ bytes) new.page.now result
