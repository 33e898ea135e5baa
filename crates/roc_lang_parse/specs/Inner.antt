-- What the functions of the parser return, seen without where it lies in memory, and how a fault is told: the contracts of private
-- functions alone cite it. What each of them gives stands beside this, in Parts.antt, Reading.antt and Scanning.antt.
pub mod Views
pub mod Told
