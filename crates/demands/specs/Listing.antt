-- Document 01's listing, section "Programs", byte for byte. Where the day-ahead curve ends, in line 2, is left open: there it is 100000, and in
-- the run that the paper names after P10 99999.
use Rattle.std.specs.Prelude.{List, ◌++◌, ℕ}
use Rattle.text.specs.Text.{bytes}

abbrev pub listing : (end : List ℕ) → List ℕ
listing end =
    bytes "hour=14 en=100000 reg=0 r1=0 r2=0 r3=0 breg=0 b1=0 b2=0 b3=0\n"
    ++ bytes "da=0 n=2 to=60000 at=2000 to=" ++ end ++ bytes " at=3500\n"
    ++ bytes "rt=0 n=2 to=60000 at=2000 to=120000 at=4000\n"
    ++ bytes "s=900 en=80000 ae=80000 co=0 eop=90000 pen=5000 lim=70000 uol=- r1=0 r2=0 r3=0 p1=0 p2=0 p3=0 reg=0 preg=0 breg=0 mv=0 pmv=0 bmv=0\n"
    ++ bytes "s=900 en=50000 ae=70000 co=3000 eop=90000 pen=5000 lim=45000 uol=- r1=0 r2=0 r3=0 p1=0 p2=0 p3=0 reg=0 preg=0 breg=0 mv=0 pmv=0 bmv=0\n"
    ++ bytes "s=900 en=110000 ae=110000 co=0 eop=120000 pen=5000 lim=100000 uol=- r1=0 r2=0 r3=0 p1=0 p2=0 p3=0 reg=0 preg=0 breg=0 mv=0 pmv=0 bmv=0\n"
    ++ bytes "s=900 en=100000 ae=95000 co=0 eop=100000 pen=5000 lim=95000 uol=- r1=0 r2=0 r3=0 p1=0 p2=0 p3=0 reg=0 preg=0 breg=0 mv=0 pmv=0 bmv=0\n"
