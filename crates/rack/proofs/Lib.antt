mod Racking
