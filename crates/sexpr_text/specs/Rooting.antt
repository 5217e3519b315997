-- What was read, as the reader keeps it.
use Rattle.sexpr_text.specs.declared.forms.Forms.{Forms}
use Rattle.sexpr_text.specs.declared.roots.Registers.{Registers}
use Rattle.sexpr_text.specs.Roots.{Rooted}

abbrev pub rooted : Registers → Forms → Rooted
rooted registers forms = record { roots = registers.roots; given = registers.given; objects = forms.objects; labels = forms.labels }
