use Rattle.record_text.proofs.Unique.{fits_in_text}
use Rattle.record_text.proofs.laws.fits_in_text.Goals as goal

pub returns : goal.returns
returns c = fits_in_text
