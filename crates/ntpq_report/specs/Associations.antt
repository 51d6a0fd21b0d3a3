-- The associations of a server: the body of an answer to read status (RFC 9327, section 4), and the report of them, which
-- is our own rule, after the report `as` of NTP's query tool.
use Rattle.std.specs.Prelude.{◌≡◌, ℕ, ◌+◌, ◌<◌, ◌^◌, List, [], ◌∷◌, ◌++◌, codes, decimal}
use Rattle.std.specs.List.{AllByRecursion, flat_map}
use Rattle.byteorder.specs.Endian.{big_bytes}
use Rattle.ntpq_report.specs.declared.associations.AssociationStatus.{AssociationStatus}
use Rattle.ntpq_report.specs.declared.association_report.TheConstants.{ORDINAL_WIDTH, ASSOCIATION_WIDTH}
use Rattle.ntpq_report.specs.Fields.{right_in, hex_word}

-- the number of an association and its status word have 16 bits each
pub record FitsAssociation (a : AssociationStatus) : Type 0 where
  pub assoc : a.assoc < 2 ^ 16
  pub status : a.status < 2 ^ 16

-- the octets of an association in the body of read status: its number and its status word
abbrev pub association_octets : AssociationStatus → List ℕ
association_octets a = big_bytes 2 a.assoc ++ big_bytes 2 a.status

-- the body of read status that names these associations, one after another
abbrev pub status_body : List AssociationStatus → List ℕ
status_body = flat_map association_octets

-- the body of read status names these associations
pub record IsStatusBody (body : List ℕ) (associations : List AssociationStatus) : Type 0 where
  pub fits : AllByRecursion FitsAssociation associations
  pub spelled : body ≡ status_body associations

-- the line of an association in the report: its ordinal, its number, and its status word in hexadecimal digits
abbrev pub association_line : ℕ → AssociationStatus → List ℕ
association_line ordinal a =
    right_in ORDINAL_WIDTH (decimal ordinal)
    ++ codes " " ++ right_in ASSOCIATION_WIDTH (decimal a.assoc)
    ++ codes " " ++ hex_word a.status ++ codes "\n"

-- a line for each association, with ordinals from this one on
abbrev pub association_lines : ℕ → List AssociationStatus → List ℕ
association_lines ordinal [] = []
association_lines ordinal (a ∷ associations) = association_line ordinal a ++ association_lines (ordinal + 1) associations

-- the report of associations in their order, with ordinals from 1 on, under a heading; where there is none, a line that says so
abbrev pub as_text : List AssociationStatus → List ℕ
as_text [] = codes "no associations\n"
as_text (a ∷ associations) = codes "ind assid status\n" ++ association_lines 1 (a ∷ associations)
