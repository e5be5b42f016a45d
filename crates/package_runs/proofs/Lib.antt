mod Counting
