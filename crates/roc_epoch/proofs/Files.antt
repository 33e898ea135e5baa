-- Files are told apart
use Rattle.std.proofs.Common.{◌≡◌, ◌≢◌, ◌∙◌, true, false, refl, sym, ap}
use Rattle.std.proofs.lemmas.Bool.{false≢true}
use Rattle.roc_epoch.specs.declared.file.File.{File}
use Rattle.roc_epoch.specs.declared.file.File.TheVariants.{First, Second, Neither}
use Rattle.roc_epoch.specs.Files.{is_file}

pub same_file : (f : File) → is_file f f ≡ true
same_file First = refl
same_file Second = refl
same_file Neither = refl

pub other_file : (f g : File) → f ≢ g → is_file f g ≡ false
other_file First First n = absurd (n refl)
other_file First Second n = refl
other_file First Neither n = refl
other_file Second First n = refl
other_file Second Second n = absurd (n refl)
other_file Second Neither n = refl
other_file Neither First n = refl
other_file Neither Second n = refl
other_file Neither Neither n = absurd (n refl)

pub file_is : (f g : File) → is_file f g ≡ true → f ≡ g
file_is First First e = refl
file_is First Second e = absurd (false≢true e)
file_is First Neither e = absurd (false≢true e)
file_is Second First e = absurd (false≢true e)
file_is Second Second e = refl
file_is Second Neither e = absurd (false≢true e)
file_is Neither First e = absurd (false≢true e)
file_is Neither Second e = absurd (false≢true e)
file_is Neither Neither e = refl

pub file_is_not : (f g : File) → is_file f g ≡ false → f ≢ g
file_is_not f g e same = false≢true (sym e ∙ ap (is_file f) (sym same) ∙ same_file f)
