-- The fields of a sentence in words, by the number of its kind and its numbers as docs/LAYOUT.md lays them out.
use Rattle.std.specs.Prelude.{ℕ, zero, suc, min, List, [], ◌++◌, cond, eqb, ltb, ℤ, drop}
use Rattle.digits.specs.Ascii.{ascii}
use Rattle.numbers.specs.Layout.{whole}
use Rattle.words.specs.Nth.{nth}
use Rattle.words.specs.Table.{filled}

-- The tables of the kinds from 1 on, each behind its semicolon: GGA, GLL, GSA, GSV, RMC, VTG, ZDA, PIRPR,
-- PIRTR, PIRSR, PIRER, PIRPA, PIRTA, PIRSA, PIREA.
abbrev pub tables : List ℕ
tables =
    ascii ";time of day: %t UTC\nposition: %p\nfix quality: %Q\nsatellites used: %n\nhorizontal dilution: %k\n"
    ++ ascii "altitude above sea level: %h metres\ngeoid height: %h metres\nage of corrections: %k seconds\nreference station: %n\n"
    ++ ascii ";position: %p\ntime of day: %t UTC\nstatus: %S\nmode: %M\n"
    ++ ascii ";selection: %A\nfix: %F\nsatellite 1: %n\nsatellite 2: %n\nsatellite 3: %n\nsatellite 4: %n\n"
    ++ ascii "satellite 5: %n\nsatellite 6: %n\nsatellite 7: %n\nsatellite 8: %n\n"
    ++ ascii "satellite 9: %n\nsatellite 10: %n\nsatellite 11: %n\nsatellite 12: %n\n"
    ++ ascii "position dilution: %k\nhorizontal dilution: %k\nvertical dilution: %k\n"
    ++ ascii ";lines: %N\nthis line: %N\nsatellites in view: %N\nsatellites on this line: %N\n"
    ++ ascii ";time of day: %t UTC\nstatus: %S\nposition: %p\nspeed: %k knots\ntrue course: %k degrees\n"
    ++ ascii "date: %d\nmagnetic variation: %v\nmode: %M\n"
    ++ ascii ";true course: %k degrees\nmagnetic course: %k degrees\nspeed: %k knots\nspeed: %k kilometres per hour\nmode: %M\n"
    ++ ascii ";time of day: %t UTC\ndate: %d\nzone: %z\n"
    ++ ascii ";port: %n\nrate: %n bits per second\nprotocol: %n\nmask: %x\n"
    ++ ascii ";datum: %n\nzone: %z\n"
    ++ ascii ";GPS mask: %g\nGLONASS mask: %r\n"
    ++ ascii ";"
    ++ ascii ";port: %N\nrate: %N bits per second\nprotocol: %N\nmask: %X\n"
    ++ ascii ";datum: %N\nzone: %Z\n"
    ++ ascii ";GPS mask: %G\nGLONASS mask: %R\n"
    ++ ascii ";self-test code: %N\n"

-- The table of a satellite of GSV, whose seven numbers stand behind one another, and the rows of so many satellites.
abbrev pub entry_table : List ℕ
entry_table = ascii "satellite: %N\nelevation: %n degrees\nazimuth: %n degrees\nsignal: %n dB\n"

unfoldable pub entries_text : ℕ → List ℤ → List ℕ
entries_text zero ns = []
entries_text (suc n) ns = filled 0 entry_table ns ++ entries_text n (drop 7 ns)

-- Kinds up to 7 have the number of the talker first, which is no field.
unfoldable pub talkers_of : ℕ → ℕ
talkers_of kind = cond (ltb kind 8) 1 0

-- The rows of a kind; of GSV also those of as many satellites as it says, and of no more than four. A kind that is none has no rows.
unfoldable pub words_text : ℕ → List ℤ → List ℕ
words_text kind ns =
    filled 0 (nth 59 kind tables) (drop (talkers_of kind) ns) ++ cond (eqb kind 4) (entries_text (min 4 (whole.at ns 4)) (drop 5 ns)) []

-- What a sentence is, by its kind from 1 on.
abbrev pub kinds : List ℕ
kinds =
    ascii ";position fix;geographic position;satellites used and dilution;satellites in view;position, speed, course and date"
    ++ ascii ";course and speed over ground;time, date and zone;command: settings of a port;command: datum and zone"
    ++ ascii ";command: satellites allowed;command: self-test;reply: settings of a port;reply: datum and zone"
    ++ ascii ";reply: satellites allowed;reply: self-test"

abbrev pub kind_text : ℕ → List ℕ
kind_text kind = nth 59 kind kinds

-- What a refusal says, by its number from 1 on.
abbrev pub refusals : List ℕ
refusals =
    ascii ";the line rule fails, or a written line would pass 82 bytes;the two digits differ from the XOR of the body"
    ++ ascii ";the address is unknown;the kind does not have so many fields"
    ++ ascii ";a field is not of its form or range, or a value of a record is outside its range"
    ++ ascii ";a line does not go with its group;a satellite is repeated in its group;the output is shorter than what would be written"
    ++ ascii ";the sentence is not a command;the protocol of the port is not 4;the bytes are no index;no exhibit has that number"

abbrev pub refusal_text : ℕ → List ℕ
refusal_text n = nth 59 n refusals
